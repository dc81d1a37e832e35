use Rattle.std.proofs.Common.{◌≡◌, ◌<◌, [], ◌∷◌, ◌++◌, length, get_or, set, Bool, true, false, not, cond, subst, sym, ap, ◌∙◌, arith}
use Rattle.std.specs.List.{list_any}
use Rattle.std.proofs.lemmas.List.{set_at, get_or_at}
use Rattle.xq_tuples.specs.private.Groups.{Gathers, keyed_of}
use Rattle.xq_tuples.proofs.Placing.{Gathers-new, Gathers-old, position_or_len-none, position_or_len-some, same_compared}
use Rattle.xq_tuples.proofs.groups.place.Goals as goal
use Rattle.xq_tuples.proofs.groups.place.Goals.{then-is_new+in_ok-push, else-is_new}

from_not : (a b c : Bool) → a ≡ c → a ≡ not b → b ≡ not c
from_not a true c e f = sym (ap not (sym e ∙ f))
from_not a false c e f = sym (ap not (sym e ∙ f))

pub returns-clause-placed : goal.returns-clause-placed
returns-clause-placed c =
    let key = c.in_ok-compared_keys.field-0 in
    let is = c.in_ok-compared_keys.ensures.keys in
    let seen = c.args.seen.now.keys in
    let gathered = c.args.groups.now.items in
    let columns = c.args.columns.now in
    let at = c.in_ok-group.group in
    let number = c.args.number in
    let lent = c.index_mut.result.now in
    let grown = c.push-2.new.self in
    let long : length seen ≡ length gathered = omega (arith, c.requires, (c.args.groups.now).ok.0) in
    λ stream done h. elim c.if-is_new.branch [
      | then-is_new+in_ok-push w ↦
          let none : list_any (same_compared key) seen ≡ false = from_not c.in_ok-group.is_new _ true w.if-is_new.true c.in_ok-group.ensures.added in
          let groups = ap (λ v. v.items) w.groups-is ∙ w.in_ok-push.ensures.items in
          let last : length gathered ≡ at = sym long ∙ sym (position_or_len-none (same_compared key) seen none) ∙ sym c.in_ok-group.ensures.index in
          let found : lent ≡ w.new.result = c.index_mut.ensures.value ∙ ap (λ l. get_or l at lent) groups ∙ get_or_at gathered w.new.result [] lent at last in
          let items : grown.items ≡ number ∷ [] = c.in_ok-push-2.ensures.items ∙ ap (λ l. l ++ number ∷ []) (ap (λ v. v.items) found ∙ w.new.ensures.items) in
          let keys = c.in_ok-group.ensures.keys ∙ ap (λ b. cond b seen (seen ++ key ∷ [])) none in
          let set_last = ap (λ l. set l at grown) groups ∙ set_at gathered w.new.result [] grown at last in
          subst (λ ks. Gathers columns stream (done ++ keyed_of columns stream number ∷ []) ks (set c.if-is_new.groups.items at grown)) (sym keys) (subst (λ gs. Gathers columns stream (done ++ keyed_of columns stream number ∷ []) (seen ++ key ∷ []) gs) (sym set_last) (Gathers-new h key number is none grown items))
      | else-is_new w ↦
          let some : list_any (same_compared key) seen ≡ true = from_not c.in_ok-group.is_new _ false w.if-is_new.false c.in_ok-group.ensures.added in
          let groups = ap (λ v. v.items) w.groups-is in
          let found : lent ≡ get_or gathered at lent = c.index_mut.ensures.value ∙ ap (λ l. get_or l at lent) groups in
          let keys = c.in_ok-group.ensures.keys ∙ ap (λ b. cond b seen (seen ++ key ∷ [])) some in
          let within : at < length gathered = omega (arith, position_or_len-some (same_compared key) seen some, c.in_ok-group.ensures.index) in
          subst (λ ks. Gathers columns stream (done ++ keyed_of columns stream number ∷ []) ks (set c.if-is_new.groups.items at grown)) (sym keys) (subst (λ gs. Gathers columns stream (done ++ keyed_of columns stream number ∷ []) seen gs) (sym (ap (λ l. set l at grown) groups)) (Gathers-old h key number is some at c.in_ok-group.ensures.index within lent grown found c.in_ok-push-2.ensures.items))
    ]

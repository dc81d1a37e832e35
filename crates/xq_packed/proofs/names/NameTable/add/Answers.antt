use Rattle.std.proofs.Common.{rules, ◌≡◌, ◌+◌, ◌++◌, ◌∷◌, [], false, map, length, string_bytes, sym, ap, ◌∙◌, subst, arith, length-append}
use Rattle.std.specs.Prelude.{bytes_eq}
use Rattle.std.specs.List.{list_any}
use Rattle.std.proofs.lemmas.List.{length-map}
use Rattle.xq_packed.specs.Packed.{IsNumbered}
use Rattle.xq_packed.proofs.Numbering.{numbered-last}
use Rattle.xq_packed.proofs.Parting.{IsAdded, added-to_few, added-to_many}
use Rattle.xq_packed.proofs.names.NameTable.add.Goals as goal
use Rattle.xq_packed.proofs.names.NameTable.add.Goals.{In_ok-kept, In_ok-push, In_ok-insert}

-- how many names there were
count : (c : In_ok-kept) → c.len.result + c.len-2.result ≡ length (map string_bytes c.self.inside.few.items ++ map string_bytes c.self.inside.many.keys)
count c =
    let few = map string_bytes c.self.inside.few.items in
    let many = map string_bytes c.self.inside.many.keys in
    let first : c.len.result ≡ length c.self.inside.few.items = search (rules, c.len.ensures) in
    let second : c.len-2.result ≡ length c.self.inside.many.keys = search (rules, c.len-2.ensures.len) in
    omega (arith, first, second, length-append few many, length-map c.self.inside.few.items string_bytes, length-map c.self.inside.many.keys string_bytes)

-- the name was not among them
absent : (c : In_ok-kept) → list_any (bytes_eq c.args.name.now) (map string_bytes c.self.inside.few.items ++ map string_bytes c.self.inside.many.keys) ≡ false
absent c = subst (λ ns. list_any (bytes_eq c.args.name.now) ns ≡ false) (sym c.self.view_is) c.requires

-- it is one of the first few
first_added : (c : In_ok-push) → list_any (bytes_eq c.args.name.now) (map string_bytes c.self.inside.few.items ++ map string_bytes c.self.inside.many.keys) ≡ false → IsAdded (map string_bytes c.self.inside.few.items ++ map string_bytes c.self.inside.many.keys) (map string_bytes c.push.new.self.items) (map string_bytes c.self.inside.many.keys) c.args.name.now
first_added c fresh =
    let first : c.len.result ≡ length c.self.inside.few.items = search (rules, c.len.ensures) in
    let second : c.len-2.result ≡ length c.self.inside.many.keys = search (rules, c.len-2.ensures.len) in
    added-to_few c.self.inside.few.items c.self.inside.many.keys c.in_ok-kept.kept c.args.name.now c.in_ok-kept.ensures.ok c.self.invariant fresh c.push.new.self.items c.in_ok-push.ensures.items (omega (arith, first, second, c.if-number-lt-FEW.true))

pub invariant_of-self-then-number-lt-FEW : goal.invariant_of-self-then-number-lt-FEW
invariant_of-self-then-number-lt-FEW c =
    let at = goal.at.invariant_of-self-then-number-lt-FEW c in
    (first_added at.In_ok-push (absent at.In_ok-kept)).kept

pub returns-then-number-lt-FEW-clause-number : goal.returns-then-number-lt-FEW-clause-number
returns-then-number-lt-FEW-clause-number c =
    let at = goal.at.returns-then-number-lt-FEW-clause-number c in
    let n = c.len.result + c.len-2.result in
    subst (λ ns. IsNumbered ns n c.args.name.now) (sym (first_added at.In_ok-push (absent at.In_ok-kept)).names)
    (numbered-last _ c.args.name.now n (count at.In_ok-kept))

-- it comes after the first few
later_added : (c : In_ok-insert) → list_any (bytes_eq c.args.name.now) (map string_bytes c.self.inside.few.items ++ map string_bytes c.self.inside.many.keys) ≡ false → IsAdded (map string_bytes c.self.inside.few.items ++ map string_bytes c.self.inside.many.keys) (map string_bytes c.self.inside.few.items) (map string_bytes c.insert.new.self.keys) c.args.name.now
later_added c fresh =
    let first : c.len.result ≡ length c.self.inside.few.items = search (rules, c.len.ensures) in
    let second : c.len-2.result ≡ length c.self.inside.many.keys = search (rules, c.len-2.ensures.len) in
    added-to_many c.self.inside.few.items c.self.inside.many.keys c.in_ok-kept.kept c.args.name.now c.in_ok-kept.ensures.ok c.self.invariant fresh c.insert.new.self.keys c.in_ok-insert.ensures.keys (omega (arith, first, second, c.if-number-lt-FEW.false)) (omega (arith, first, second, c.if-number-ge-MOST_NAMES.false))

pub invariant_of-self-2 : goal.invariant_of-self-2
invariant_of-self-2 c =
    let at = goal.at.invariant_of-self-2 c in
    (later_added at.In_ok-insert (absent at.In_ok-kept)).kept

pub returns-clause-number : goal.returns-clause-number
returns-clause-number c =
    let at = goal.at.returns-clause-number c in
    let n = c.len.result + c.len-2.result in
    subst (λ ns. IsNumbered ns n c.args.name.now) (sym (later_added at.In_ok-insert (absent at.In_ok-kept)).names)
    (numbered-last _ c.args.name.now n (count at.In_ok-kept))

pub returns-clause-names : goal.returns-clause-names
returns-clause-names c =
    let at = goal.at.returns-clause-names c in
    (later_added at.In_ok-insert (absent at.In_ok-kept)).names ∙ ap (λ ns. ns ++ c.args.name.now ∷ []) c.self.view_is

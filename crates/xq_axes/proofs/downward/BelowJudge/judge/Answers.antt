use Rattle.std.proofs.Common.{◌≡◌, ◌+◌, ◌-◌, ◌&&◌, false, get_or, set, nat_lt, not, sym, ap, ◌∙◌, subst, arith}
use Rattle.std.specs.Prelude.{slice_get}
use Rattle.xq_trees.specs.Rows.{Row, rows}
use Rattle.xq_trees.specs.Tree.{is_attribute}
use Rattle.xq_trees.specs.RegionTests.{plain_row}
use Rattle.xq_sources.specs.Lent.{placed_lent}
use Rattle.xq_axes.specs.declared.contexts.Contexts.{Contexts}
use Rattle.xq_axes.specs.private.Hits.{is_among, is_hit, AreUnhit, IsRising, IsReached}
use Rattle.xq_axes.specs.private.Downward.{axis_of, is_chosen, is_child, level_of, rows_over, IsJudged}
use Rattle.xq_axes.proofs.Clusters.{judged, is_met, descendant}
use Rattle.xq_axes.proofs.Picking.{judged_one}
use Rattle.xq_trees.specs.declared.Axis.TheVariants as axis
use Rattle.xq_axes.specs.declared.downward.Downward.TheVariants.{Descendant}
use Rattle.xq_axes.proofs.Over.{goes_over}
use Rattle.xq_axes.proofs.downward.BelowJudge.judge.Goals as goal

pub returns : goal.returns
returns g c = λ start t s n r h. (
    let x = c.args.row.now in
    let vs = start.contexts.places.now in
    let old = c.args.self.now in
    let which = g.D.Direction.which in
    let d = which start.direction in
    let same = ap which h.0 in
    let j = h.3 in
    let context = c.meets-is_context.result in
    let plain = c.is_plain-is_plain.result in
    let child = c.is_child-is_child.result in
    let met = c.meets-is_context.new.self.met in
    let new = c.mark.new.self in
    let e : x.level ≡ level_of t n = ap (λ (y : Row). y.level) r.row in
    let k : plain_row (rows t) n ≡ not (is_attribute x.kind) = sym (ap (λ (y : Row). not (is_attribute y.label.kind)) r.row) in
    let ep : plain ≡ plain_row (rows t) n = c.is_plain-is_plain.ensures ∙ sym k in
    let other : d ≡ Descendant → ⊥ = λ e. c.in_default.not-Descendant (c.which.ensures ∙ same ∙ e) in
    let reached = is_met d vs old.contexts.met n other j.reached in
    let found = subst (λ us. (context ≡ is_among us x.pre) × IsReached us met (x.pre + 1)) h.1
    (c.meets-is_context.ensures.met (subst (λ us. IsRising us) (sym h.1) j.rising) (subst (λ us. IsReached us old.contexts.met x.pre) (sym h.1) (subst (IsReached vs old.contexts.met) (sym r.place) reached))) in
    let em = subst (λ m. (context ≡ is_among vs m) × IsReached vs met (m + 1)) r.place found in
    let ec : child ≡ is_child d old.is_open (nat_lt 0 (level_of t n) && get_or old.marks (level_of t n - 1) false) =
    c.is_child-is_child.ensures ∙ ap (λ y. is_child y old.is_open (nat_lt 0 x.level && get_or old.marks (x.level - 1) false)) same
    ∙ ap (λ l. is_child d old.is_open (nat_lt 0 l && get_or old.marks (l - 1) false)) e in
    let w = judged d t vs s n child context plain c.is_chosen.result old.contexts.met met old.marks old.is_open j r.is_there r.from r.to (omega (arith, e)) ec em ep
    (c.is_chosen.ensures ∙ ap (λ y. is_chosen y child context plain) (c.which-2.ensures ∙ ap which c.mark.ensures.direction ∙ same)) in
    let marks : set old.marks (level_of t n) context ≡ new.marks = ap (λ l. set old.marks l context) (sym e) ∙ sym c.mark.ensures.marks in
    let contexts : new.contexts ≡ c.meets-is_context.new.self = c.mark.ensures.contexts in
    let places = ap (λ (y : Contexts). y.places.now) contexts ∙ c.meets-is_context.ensures.places ∙ h.1 in
    let new_met = ap (λ (y : Contexts). y.met) contexts in
    let j1 = subst (λ b. IsJudged d t vs s (n + 1) met (set old.marks (level_of t n) context) b) (sym c.mark.ensures.is_open) w.goes_on in
    let j2 = subst (λ ms. IsJudged d t vs s (n + 1) met ms new.is_open) marks j1 in
    let j3 = subst (λ m. IsJudged d t vs s (n + 1) m new.marks new.is_open) (sym new_met) j2 in
    let last = c.mark.ensures.last ∙ h.2 in
    let over = c.rows_over.ensures ∙ ap (λ y. rows_over y context plain (slice_get new.contexts.places.now new.contexts.met) x.pre x.size new.last) (ap which c.mark.ensures.direction ∙ same)
    ∙ ap (λ us. rows_over d context plain (slice_get us new.contexts.met) x.pre x.size new.last) places in
    let g = goes_over t vs s n new.contexts.met new.marks new.is_open r.is_there r.from r.to d context plain x.pre x.size new.last c.rows_over.result j3 em.0 ep r.place (ap (λ (y : Row). y.size) r.row) last over in
    (w.is_right, g.within, g.unhit, (c.mark.ensures.direction ∙ h.0, places, last, g.goes_on)))

pub returns-in-Descendant : goal.returns-in-Descendant
returns-in-Descendant g c = λ start t s n r h. (
    let x = c.args.row.now in
    let vs = start.contexts.places.now in
    let old = c.args.self.now in
    let plain = c.is_plain-is_plain.result in
    let which = g.D.Direction.which in
    let d : which start.direction ≡ Descendant = sym (ap which h.0) ∙ sym c.which.ensures ∙ c.in-Descendant.is in
    let ep : plain ≡ plain_row (rows t) n = c.is_plain-is_plain.ensures ∙ ap (λ (y : Row). not (is_attribute y.label.kind)) r.row in
    let j = subst (λ y. IsJudged y t vs s n old.contexts.met old.marks old.is_open) d h.3 in
    let w = descendant t vs s n old.contexts.met old.marks old.is_open plain j r.is_there r.from r.to ep in
    let o = judged_one t s n (placed_lent x) (is_hit axis.Descendant t vs) (λ m. IsJudged Descendant t vs s m old.contexts.met old.marks old.is_open) r w.goes_on in (
      w.is_right ∙ ap (λ y. is_hit (axis_of y) t vs n) (sym d),
      o.within,
      subst (λ y. AreUnhit (is_hit (axis_of y) t vs) (n + 1) (n + 1 + 0)) (sym d) o.unhit,
      (h.0, h.1, h.2, subst (λ y. IsJudged y t vs s (n + 1 + 0) old.contexts.met old.marks old.is_open) (sym d) o.goes_on),
    ))

use Rattle.std.proofs.Common.{◌≡◌, sym, subst, ◌∙◌}
use Rattle.xq_tables.specs.Documents.{IsClean, IsOpen, Map, StandsFor}
use Rattle.xq_store.proofs.stores.Store.addresses.Goals.{then-shelf, else-shelf}
use Rattle.xq_store.proofs.Keeping.{alone_clean, alone_open, alone_stands, listed_keys, taken_kept}
use Rattle.xq_store.proofs.stores.Store.addresses.Goals as goal

pub returns-in_err-shelf-clause-same : goal.returns-in_err-shelf-clause-same
returns-in_err-shelf-clause-same g c = alone_stands g.S.Store c.args.self.now c.take_shelf.new.self c.take_shelf.ensures.alone

pub returns-in_err-shelf-clause-was_open : goal.returns-in_err-shelf-clause-was_open
returns-in_err-shelf-clause-was_open g c = alone_open g.S.Store c.args.self.now c.take_shelf.new.self c.take_shelf.ensures.alone

pub returns-in_err-shelf-clause-was_clean : goal.returns-in_err-shelf-clause-was_clean
returns-in_err-shelf-clause-was_clean g c = alone_clean g.S.Store c.args.self.now c.take_shelf.new.self c.take_shelf.ensures.alone

pub returns-in_err-addresses-clause-same : goal.returns-in_err-addresses-clause-same
returns-in_err-addresses-clause-same g c = alone_stands g.S.Store c.args.self.now c.take_shelf.new.self c.take_shelf.ensures.alone

pub returns-in_err-addresses-clause-was_open : goal.returns-in_err-addresses-clause-was_open
returns-in_err-addresses-clause-was_open g c = alone_open g.S.Store c.args.self.now c.take_shelf.new.self c.take_shelf.ensures.alone

pub returns-in_err-addresses-clause-was_clean : goal.returns-in_err-addresses-clause-was_clean
returns-in_err-addresses-clause-was_clean g c = alone_clean g.S.Store c.args.self.now c.take_shelf.new.self c.take_shelf.ensures.alone

pub put_back-requires : goal.put_back-requires
put_back-requires g c =
    taken_kept g.S.Store c.args.self.now c.take_shelf.new.self c.take_shelf.ensures.alone c.in_ok-shelf.shelf c.in_ok-shelf.ensures.shelf (λ up. c.in_ok-shelf.ensures.own up c.if-shelf.true)

pub returns-clause-all : goal.returns-clause-all
returns-clause-all g c clean m stands =
    let now : c.if-shelf.self ≡ c.take_shelf.new.self = elim c.if-shelf.branch [ then-shelf w ↦ w.self-is ∙ w.put_back.ensures | else-shelf w ↦ w.self-is ] in
    let early = subst (IsClean g.S.Store) now clean in
    let list = c.in_ok-addresses.ensures ∙ c.as_slice.ensures ∙ c.deref.ensures in
    list ∙ listed_keys g.S.Store c.args.self.now c.take_shelf.new.self c.take_shelf.ensures.alone c.in_ok-shelf.ensures.answered c.in_ok-shelf.shelf.addresses.value c.in_ok-shelf.shelf.fronts.items c.in_ok-shelf.ensures.shelf early m stands

pub returns-clause-same : goal.returns-clause-same
returns-clause-same g c =
    let now : c.if-shelf.self ≡ c.take_shelf.new.self = elim c.if-shelf.branch [ then-shelf w ↦ w.self-is ∙ w.put_back.ensures | else-shelf w ↦ w.self-is ] in
    subst (λ h. IsClean g.S.Store h → (m : Map) → StandsFor g.S.Store c.args.self.now m → StandsFor g.S.Store h m) (sym now) (alone_stands g.S.Store c.args.self.now c.take_shelf.new.self c.take_shelf.ensures.alone)

pub returns-clause-was_open : goal.returns-clause-was_open
returns-clause-was_open g c =
    let now : c.if-shelf.self ≡ c.take_shelf.new.self = elim c.if-shelf.branch [ then-shelf w ↦ w.self-is ∙ w.put_back.ensures | else-shelf w ↦ w.self-is ] in
    subst (λ h. IsClean g.S.Store h → IsOpen g.S.Store h → IsOpen g.S.Store c.args.self.now) (sym now) (alone_open g.S.Store c.args.self.now c.take_shelf.new.self c.take_shelf.ensures.alone)

pub returns-clause-was_clean : goal.returns-clause-was_clean
returns-clause-was_clean g c =
    let now : c.if-shelf.self ≡ c.take_shelf.new.self = elim c.if-shelf.branch [ then-shelf w ↦ w.self-is ∙ w.put_back.ensures | else-shelf w ↦ w.self-is ] in
    subst (λ h. IsClean g.S.Store h → IsClean g.S.Store c.args.self.now) (sym now) (alone_clean g.S.Store c.args.self.now c.take_shelf.new.self c.take_shelf.ensures.alone)

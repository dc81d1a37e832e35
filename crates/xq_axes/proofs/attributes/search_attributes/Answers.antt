use Rattle.std.proofs.Common.{◌≡◌, ◌≤◌, ◌+◌, ◌-◌, ◌<◌, Vec, Global, get_or, length, max, min, refl, sym, ap, subst, ◌∙◌, arith}
use Rattle.std.specs.Prelude.{IfSome}
use Rattle.xq_trees.specs.declared.Axis.TheVariants as axis
use Rattle.xq_sources.specs.Sources.{tree_at}
use Rattle.xq_axes.specs.declared.attributes.Counted.{Counted}
use Rattle.xq_axes.specs.private.Counted.{AreCounted, AreHits}
use Rattle.xq_axes.specs.Reads.{span, span_end}
use Rattle.xq_axes.specs.private.Hits.{is_wanted, below_where}
use Rattle.xq_axes.proofs.CountedAttributes.{IsAsked, none_yet, none_counted_of, asked, are_hits, asked_end, begins, goes_on, all_so_far, read_rows}
use Rattle.xq_axes.proofs.Picking.{same_places}
use Rattle.xq_axes.proofs.Scans.{below_ends}
use Rattle.xq_axes.specs.declared.downward.Downward.TheVariants.{Attribute}
use Rattle.xq_axes.proofs.attributes.search_attributes.Goals as goal

pub loop-node-init : goal.loop-node-init
loop-node-init g c =
    let t = tree_at (g.L.TreeSource.forest c.args.source.now) c.args.tree in
    record {
      forest = refl;
      clean = λ k. k;
      singles = refl;
      looks = refl;
      within = λ k. omega arith;
      rows = λ k. omega arith;
      so_far = λ k up. record { places = refl; test = refl; found = none_yet c.args.test.now t c.args.places.now c.new.result.items c.new.ensures.items };
    }

pub loop-node-preserved : goal.loop-node-preserved
loop-node-preserved g c =
    let inv = c.loop-node.invariant in
    let vs = c.args.places.now in
    let i = c.loop-node.node-index in
    let items = c.deref-node-items.result.now in
    let x : Counted = get_or items i (record { place = 0; number = 0 }) in
    let t = tree_at (g.L.TreeSource.forest c.args.source.now) c.args.tree in
    let u = tree_at (g.L.TreeSource.forest c.loop-node.source) c.args.tree in
    let same : u ≡ t = ap (λ f. tree_at f c.args.tree) inv.forest in
    let told : g.L.TreeSource.is_clean c.args.source.now → AreCounted t vs items = λ k.
    subst (AreCounted t vs) (sym c.deref-node-items.ensures.value) (subst (λ o. IfSome o (λ (counted : Vec Counted Global). AreCounted t vs counted.items)) c.in-Some.is (c.in_ok-counted.ensures.told k)) in
    let all : length items ≡ length vs = ap length c.deref-node-items.ensures.value ∙ subst (λ o. IfSome o (λ (counted : Vec Counted Global). length counted.items ≡ length vs)) c.in-Some.is c.in_ok-counted.ensures.all in
    let low = c.max-low.result in
    let high = c.saturating_add-high.result in
    let next = c.loop-node.next in
    let after = c.max-next.result in
    let is : g.L.TreeSource.is_clean c.take_attributes.new.source → IsAsked t vs i next x.number low high after = λ k.
    asked t vs items i next _ _ low high after (told (inv.clean (c.in_ok-take_attributes.ensures.was_clean k))) all (omega arith) c.if-node-eq0.false c.saturating_add.ensures c.max-low.ensures c.saturating_add-high.ensures c.saturating_add-in-loop-node.ensures c.max-next.ensures (inv.within (c.in_ok-take_attributes.ensures.was_clean k)) in
    record {
      forest = c.in_ok-take_attributes.ensures.keeps ∙ inv.forest;
      clean = λ k. inv.clean (c.in_ok-take_attributes.ensures.was_clean k);
      singles = c.in_ok-take_attributes.ensures.singles ∙ inv.singles;
      looks = c.in_ok-take_attributes.ensures.looks ∙ inv.looks;
      within = λ k. (is k).within;
      rows = λ k. (
          let was = c.in_ok-take_attributes.ensures.was_clean k in
          let read = subst (λ w. (g.L.TreeSource.meter c.take_attributes.new.source).rows ≤ (g.L.TreeSource.meter c.loop-node.source).rows + (span_end w (span low high) - low)) same (c.in_ok-take_attributes.ensures.rows k) in
          let more = read_rows t vs i next x.number low high after (is k) in
          let so = inv.rows was in
          omega (arith, read, more, so));
      so_far = λ k up. (
          let was = c.in_ok-take_attributes.ensures.was_clean k in
          let p = c.loop-node.picker in
          let q = c.take_attributes.new.picker in
          let test = c.args.test.now in
          let s = inv.so_far was up in
          let found = s.found in
          let asked_is = is k in
          let hits = subst (λ w. AreHits w p.judge.places.now low high) (sym same) (subst (λ ws. AreHits t ws low high) (sym s.places) (are_hits t vs i next x.number low high after asked_is)) in
          let begin : p.found.items ≡ below_where (is_wanted axis.Attributes p.test.now u p.judge.places.now) low =
          begins test t vs i next p.found.items up found x.number low high after asked_is
          ∙ ap (λ w. below_where (is_wanted axis.Attributes w t vs) low) (sym s.test) ∙ ap (λ w. below_where (is_wanted axis.Attributes p.test.now w vs) low) (sym same)
          ∙ ap (λ ws. below_where (is_wanted axis.Attributes p.test.now u ws) low) (sym s.places) in
          let r = c.in_ok-take_attributes.ensures.found k hits begin in
          let places = r.0 ∙ s.places in
          let tests = r.1 ∙ s.test in
          let end = asked_end t vs i next x.number low high after asked_is in
          let now : q.found.items ≡ below_where (is_wanted axis.Attributes test t vs) after =
          r.2 ∙ ap (λ w. below_where (is_wanted axis.Attributes w u p.judge.places.now) (max low (high + 1))) s.test ∙ ap (λ w. below_where (is_wanted axis.Attributes test w p.judge.places.now) (max low (high + 1))) same
          ∙ ap (λ ws. below_where (is_wanted axis.Attributes test t ws) (max low (high + 1))) s.places ∙ ap (below_where (is_wanted axis.Attributes test t vs)) end in
          record { places = places; test = tests; found = goes_on test t vs i next p.found.items up found asked_is.is_tree asked_is.here x.number asked_is.are low high after q.found.items asked_is now });
    }

pub returns-in_err-take_attributes-clause-rows : goal.returns-in_err-take_attributes-clause-rows
returns-in_err-take_attributes-clause-rows g c = λ k. (
    let inv = c.loop-node.invariant in
    let vs = c.args.places.now in
    let i = c.loop-node.node-index in
    let items = c.deref-node-items.result.now in
    let x : Counted = get_or items i (record { place = 0; number = 0 }) in
    let t = tree_at (g.L.TreeSource.forest c.args.source.now) c.args.tree in
    let u = tree_at (g.L.TreeSource.forest c.loop-node.source) c.args.tree in
    let same : u ≡ t = ap (λ f. tree_at f c.args.tree) inv.forest in
    let told : g.L.TreeSource.is_clean c.args.source.now → AreCounted t vs items = λ k.
    subst (AreCounted t vs) (sym c.deref-node-items.ensures.value) (subst (λ o. IfSome o (λ (counted : Vec Counted Global). AreCounted t vs counted.items)) c.in-Some.is (c.in_ok-counted.ensures.told k)) in
    let all : length items ≡ length vs = ap length c.deref-node-items.ensures.value ∙ subst (λ o. IfSome o (λ (counted : Vec Counted Global). length counted.items ≡ length vs)) c.in-Some.is c.in_ok-counted.ensures.all in
    let low = c.max-low.result in
    let high = c.saturating_add-high.result in
    let next = c.loop-node.next in
    let was = c.in_err-take_attributes.ensures.was_clean k in
    let last = min (high + 1) 4294967295 in
    let is = asked t vs items i next _ last low high (max next last) (told (inv.clean was)) all (omega arith) c.if-node-eq0.false c.saturating_add.ensures c.max-low.ensures c.saturating_add-high.ensures refl refl (inv.within was) in
    let read = subst (λ w. (g.L.TreeSource.meter c.take_attributes.new.source).rows ≤ (g.L.TreeSource.meter c.loop-node.source).rows + (span_end w (span low high) - low)) same (c.in_err-take_attributes.ensures.rows k) in
    let more = read_rows t vs i next x.number low high (max next last) is in
    let so = inv.rows was in
    below_ends Attribute t vs (max next last) _ _ is.within (omega (arith, read, more, so)))

pub loop-node-preserved-then-node-eq0 : goal.loop-node-preserved-then-node-eq0
loop-node-preserved-then-node-eq0 g c =
    let inv = c.loop-node.invariant in
    let vs = c.args.places.now in
    let i = c.loop-node.node-index in
    let items = c.deref-node-items.result.now in
    let x : Counted = get_or items i (record { place = 0; number = 0 }) in
    let t = tree_at (g.L.TreeSource.forest c.args.source.now) c.args.tree in
    let u = tree_at (g.L.TreeSource.forest c.loop-node.source) c.args.tree in
    let same : u ≡ t = ap (λ f. tree_at f c.args.tree) inv.forest in
    let told : g.L.TreeSource.is_clean c.args.source.now → AreCounted t vs items = λ k.
    subst (AreCounted t vs) (sym c.deref-node-items.ensures.value) (subst (λ o. IfSome o (λ (counted : Vec Counted Global). AreCounted t vs counted.items)) c.in-Some.is (c.in_ok-counted.ensures.told k)) in
    let all : length items ≡ length vs = ap length c.deref-node-items.ensures.value ∙ subst (λ o. IfSome o (λ (counted : Vec Counted Global). length counted.items ≡ length vs)) c.in-Some.is c.in_ok-counted.ensures.all in
    record {
      forest = inv.forest;
      clean = inv.clean;
      singles = inv.singles;
      looks = inv.looks;
      within = inv.within;
      rows = inv.rows;
      so_far = λ k up. (
          let s = inv.so_far k up in
          let a = told (inv.clean k) in
          let here : i < length items = omega arith in
          record { places = s.places; test = s.test; found = none_counted_of c.args.test.now t vs items i c.loop-node.next c.loop-node.picker.found.items up s.found a all here c.if-node-eq0.true });
    }

pub returns-clause-found : goal.returns-clause-found
returns-clause-found g c = λ k up. (
    let t = tree_at (g.L.TreeSource.forest c.args.source.now) c.args.tree in
    let vs = c.args.places.now in
    let all : length c.deref-node-items.result.now ≡ length vs = ap length c.deref-node-items.ensures.value ∙ subst (λ o. IfSome o (λ (counted : Vec Counted Global). length counted.items ≡ length vs)) c.in-Some.is c.in_ok-counted.ensures.all in
    same_places c.into_places.result _ _ c.into_places.ensures (all_so_far c.args.test.now t vs c.loop-node.node-index c.loop-node.next c.loop-node.picker.found.items up (c.loop-node.invariant.so_far k up).found (omega (arith, all))))

pub returns-clause-rows : goal.returns-clause-rows
returns-clause-rows g c = λ k. (
    let t = tree_at (g.L.TreeSource.forest c.args.source.now) c.args.tree in
    below_ends Attribute t c.args.places.now c.loop-node.next _ _ (c.loop-node.invariant.within k) (c.loop-node.invariant.rows k))

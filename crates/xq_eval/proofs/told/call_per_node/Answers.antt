use Rattle.std.proofs.Common.{◌≡◌, ◌∷◌, [], ◌+◌, ◌∙◌, suc, refl, ap, sym, subst, arith, length, map, Ok, Err}
use Rattle.std.proofs.lemmas.List.{drop_all, length-map, map-append}
use Rattle.xq_atoms.specs.Atom.{atomic_of}
use Rattle.xq_trees.specs.Items.{item_view, item_views}
use Rattle.xq_functions.specs.Answers.{TellsAtom}
use Rattle.xq_meaning.specs.Arguments.{atomic}
use Rattle.xq_meaning.specs.Doing.{in_turn, more, collected}
use Rattle.xq_meaning.specs.Forms as Forms
use Rattle.xq_meaning.specs.Functions.{Focus as Spot, of_one}
use Rattle.xq_meaning.specs.PlanMeaning.{plan_mean}
use Rattle.xq_meaning.specs.Readings.{item_at, items_at, AreIn}
use Rattle.xq_meaning.specs.Steps.{focuses, focuses_from}
use Rattle.xq_eval.proofs.Loops.{turns_next, turns_stop, turns_end}
use Rattle.xq_eval.proofs.Steps.{spots_left}
use Rattle.xq_eval.proofs.TextSteps.{found_stop}
use Rattle.xq_eval.proofs.ItemCalls.{told_next, told_refused}
use Rattle.xq_eval.proofs.told.call_per_node.Goals as goal

pub loop-item-init : goal.loop-item-init
loop-item-init g c =
    let old = g.L.TreeSource.forest c.args.source.now in
    let items = c.args.items.now in
    let views = map item_view items in
    let part = c.args.part.now in
    let none : item_views c.in_ok-found.found ≡ [] = ap (map item_view) c.in_ok-found.ensures.items in
    let long : length items ≡ length (items_at old views) = sym (length-map items item_view) ∙ sym (length-map views (item_at old)) in
    record {
      keeps = refl;
      was_clean = λ k. k;
      turns = λ frame.
          let act = more (λ (s : Spot). plan_mean part (Forms.in_focus frame s)) in
          record {
            rest = λ k inside. (
              subst (AreIn old) (sym none) tt,
              ap (λ ks. in_turn act (items_at old ks) (focuses_from 1 (length items) (items_at old views)) old) none
                  ∙ ap (λ n. in_turn act [] (focuses_from 1 n (items_at old views)) old) long,
            );
          };
    }

pub loop-item-preserved : goal.loop-item-preserved
loop-item-preserved g c =
    let i = c.loop-item.invariant in
    let old = g.L.TreeSource.forest c.args.source.now in
    let f = g.L.TreeSource.forest c.loop-item.source in
    let f' = g.L.TreeSource.forest c.told_of.new.source in
    let n = c.loop-item.item-index in
    let items = c.args.items.now in
    let x = c.item-item.result in
    let function = c.in-Some.function in
    let found = item_views c.loop-item.found in
    let atom = c.in-Some-2.atom in
    let spot : Spot = record { item = item_at old (item_view x); position = n + 1; last = length items } in
    record {
      keeps = c.told_of.ensures.keeps ∙ i.keeps;
      was_clean = λ k. i.was_clean (c.told_of.ensures.was_clean k);
      turns = λ frame.
          turns_next _ _ _ (item_views c.push.new.self) spot _ f' (i.turns frame) (spots_left old items n x (length items) (omega arith) c.item-item.is) c.told_of.ensures.was_clean
          (λ k inside is_in.
          let told = subst (λ o. TellsAtom (of_one function f frame.addresses (item_at f (item_view x) ∷ [])) (Ok o)) c.in-Some-2.is (c.in_ok-atom.ensures.tells k frame.addresses) in
          told_next function c.args.part.now c.in-Some.ensures frame spot found (item_views c.push.new.self) atom f f' c.told_of.ensures.keeps is_in
          (subst (λ h. of_one function f frame.addresses (item_at h (item_view x) ∷ []) ≡ Ok (atomic (atomic_of atom))) i.keeps told)
          (ap (map item_view) c.in_ok-push.ensures.items ∙ map-append item_view c.loop-item.found.items (_ ∷ [])));
    }

pub returns-in_err-atom-clause-gives : goal.returns-in_err-atom-clause-gives
returns-in_err-atom-clause-gives g c = λ clean inside frame.
    let i = c.loop-item.invariant in
    let old = g.L.TreeSource.forest c.args.source.now in
    let f = g.L.TreeSource.forest c.loop-item.source in
    let f' = g.L.TreeSource.forest c.told_of.new.source in
    let n = c.loop-item.item-index in
    let items = c.args.items.now in
    let x = c.item-item.result in
    let function = c.in-Some.function in
    let part = c.args.part.now in
    let e = c.in_err-atom.field-0.0 in
    let spot : Spot = record { item = item_at old (item_view x); position = n + 1; last = length items } in
    found_stop (collected (λ (s : Spot). plan_mean part (Forms.in_focus frame s)) (focuses (items_at old (map item_view items))) old) f' e c.from_residual-in_err-atom.result c.from_residual-in_err-atom.ensures.1
    (turns_stop _ _ _ item_views items_at AreIn spot _ f' e (i.turns frame) (spots_left old items n x (length items) (omega arith) c.item-item.is) c.told_of.ensures.was_clean
    (λ k inside is_in.
    told_refused function part c.in-Some.ensures frame spot (item_views c.loop-item.found) f f' e
    (subst (λ h. TellsAtom (of_one function f frame.addresses (item_at h (item_view x) ∷ [])) (Err e)) i.keeps (c.in_err-atom.ensures.tells k frame.addresses))) clean inside)

pub returns-clause-gives : goal.returns-clause-gives
returns-clause-gives g c = λ clean inside frame.
    let old = g.L.TreeSource.forest c.args.source.now in
    let items = c.args.items.now in
    turns_end _ _ _ (c.loop-item.invariant.turns frame) (ap (λ xs. focuses_from (suc c.loop-item.item-index) (length items) (items_at old (map item_view xs))) (drop_all c.loop-item.item-index items (omega arith))) clean inside

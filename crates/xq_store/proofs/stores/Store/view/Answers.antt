use Rattle.xq_store.proofs.Keeping.{all_named, alone_clean, alone_open, alone_stands, may_stay, opened_before, own_rows}
use Rattle.xq_store.proofs.ViewLaws.{new_view, stands_stood, stood_stands, stood_held, trees_stood}
use Rattle.xq_store.proofs.stores.Store.view.Goals as goal

pub invariant_of-result : goal.invariant_of-result
invariant_of-result g c =
    let shelf = c.in-Ok.shelf in
    let answered = c.in-Ok.ensures.answered in
    let of = c.in-Ok.ensures.shelf in
    record {
      view = new_view g.S.Store g.O.Origin.beginning c.args.self c.requires c.take_shelf.new.self _ c.new.result _ (alone_clean g.S.Store c.args.self c.take_shelf.new.self c.take_shelf.ensures.alone)
          (opened_before g.S.Store g.O.Origin.beginning c.args.self c.take_shelf.new.self c.requires c.take_shelf.ensures.alone answered shelf of) (alone_stands g.S.Store c.args.self c.take_shelf.new.self c.take_shelf.ensures.alone)
          (all_named g.S.Store g.O.Origin.beginning c.args.self c.take_shelf.new.self c.requires c.take_shelf.ensures.alone answered shelf of);
      rows = own_rows g.S.Store g.O.Origin.beginning c.args.self c.take_shelf.new.self c.requires c.take_shelf.ensures.alone answered shelf of;
      stays = may_stay g.S.Store g.O.Origin.beginning c.args.self c.take_shelf.new.self c.requires c.take_shelf.ensures.alone answered shelf of c.in-Ok.ensures.own;
    }

pub returns-in-Ok-clause-began : goal.returns-in-Ok-clause-began
returns-in-Ok-clause-began g c clean =
    stands_stood g.S.Store g.O.Origin.beginning c.args.self c.requires (alone_open g.S.Store c.args.self c.take_shelf.new.self c.take_shelf.ensures.alone clean (c.in-Ok.ensures.answered clean))

pub returns-in-Ok-clause-addresses : goal.returns-in-Ok-clause-addresses
returns-in-Ok-clause-addresses g c clean m stood =
    all_named g.S.Store g.O.Origin.beginning c.args.self c.take_shelf.new.self c.requires c.take_shelf.ensures.alone c.in-Ok.ensures.answered c.in-Ok.shelf c.in-Ok.ensures.shelf clean m
    (stood_stands g.S.Store g.O.Origin.beginning c.args.self c.requires m stood)

pub returns-in-Ok-clause-trees : goal.returns-in-Ok-clause-trees
returns-in-Ok-clause-trees g c clean m stood = trees_stood g.O.Origin.beginning _ m stood (returns-in-Ok-clause-addresses g c clean m stood)

pub returns-in-Ok-clause-clean : goal.returns-in-Ok-clause-clean
returns-in-Ok-clause-clean g c clean m stood = (clean, stood_held g.O.Origin.beginning m stood)

pub returns-in-Err-clause-kept : goal.returns-in-Err-clause-kept
returns-in-Err-clause-kept g c = alone_stands g.S.Store c.args.self c.take_shelf.new.self c.take_shelf.ensures.alone

pub returns-in-Err-clause-was_open : goal.returns-in-Err-clause-was_open
returns-in-Err-clause-was_open g c = alone_open g.S.Store c.args.self c.take_shelf.new.self c.take_shelf.ensures.alone

pub returns-in-Err-clause-was_clean : goal.returns-in-Err-clause-was_clean
returns-in-Err-clause-was_clean g c = alone_clean g.S.Store c.args.self c.take_shelf.new.self c.take_shelf.ensures.alone

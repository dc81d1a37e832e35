use Rattle.xq_store.specs.Views.{beginning}
use Rattle.xq_server.proofs.evaluations.product_of.Given as goal

-- the view begins with the store that was handed over
abbrev pub ghosts-over_view : goal.ghosts-over_view
ghosts-over_view g a = record { beginning = beginning g.S.Store a.store }

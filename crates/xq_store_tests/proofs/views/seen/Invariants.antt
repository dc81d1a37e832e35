use Rattle.xq_store.specs.Views.{beginning}
use Rattle.xq_store_tests.proofs.views.seen.Given as goal

-- the view begins with the store that is passed
abbrev pub ghosts-viewed : goal.ghosts-viewed
ghosts-viewed g a = record { beginning = beginning g.S.Store a.store }

use Rattle.std.proofs.Common.{Option, Some, None, IfSome, ◌≡◌}
use Rattle.xq_store.specs.declared.shelves.Cache.{Cache}
use Rattle.xq_store.proofs.stores.shelf_with.Goals as goal

-- the shelf was there
found : (shelf : Option Cache) (earlier : Cache) (P : Cache → Cache → Type 0) → shelf ≡ Some earlier → (later : Option Cache) → IfSome later (P earlier) → IfSome later (λ l. (earlier : Cache) × (shelf ≡ Some earlier) × P earlier l)
found shelf earlier P e None did = tt
found shelf earlier P e (Some l) did = (earlier, e, did)

pub returns : goal.returns
returns c = found c.args.shelf c.in_ok-shelf.field-0 _ c.in_ok-shelf.was c.with_document.result c.with_document.ensures

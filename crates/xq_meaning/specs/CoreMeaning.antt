-- What a normal form means, over names: one line a form.
use Rattle.std.specs.Prelude.{map}
use Rattle.xq_meaning.specs.declared.normal_forms.Core.{Core, fold-Core}
use Rattle.xq_meaning.specs.declared.normal_forms.CoreClause.{CoreClause, fold-CoreClause}
use Rattle.xq_meaning.specs.declared.normal_forms.Core.TheOpen.{Core-F, CoreClause-F}
use Rattle.xq_atoms.specs.Atom.{Integer, Decimal, String}
use Rattle.xq_meaning.specs.Forms
use Rattle.xq_meaning.specs.Meaning.{Meaning, ClauseMeaning, variable, bind, flwor, for_clause, let_clause, where_clause, group_clause, order_clause, count_clause}

-- a clause, from the meanings of its parts
abbrev pub core_clause : CoreClause-F Meaning ClauseMeaning → ClauseMeaning
core_clause (CoreClause-F.For v empties at part) = for_clause v empties at part
core_clause (CoreClause-F.Let v part) = let_clause v part
core_clause (CoreClause-F.Where part) = where_clause part
core_clause (CoreClause-F.Group vs) = group_clause vs
core_clause (CoreClause-F.Order specs) = order_clause specs
core_clause (CoreClause-F.Count v) = count_clause v

-- a form, from the meanings of its parts
abbrev pub core_form : Core-F Meaning ClauseMeaning → Meaning
core_form (Core-F.Int n) = Forms.literal (Integer n)
core_form (Core-F.Dec m) = Forms.literal (Decimal m)
core_form (Core-F.Str t) = Forms.literal (String t)
core_form (Core-F.Variable v) = variable v
core_form Core-F.ContextItem = Forms.context
core_form (Core-F.Call function parts) = Forms.call function parts
core_form (Core-F.Arrow first calls) = Forms.arrow first calls
core_form (Core-F.Map start parts) = Forms.simple_map start parts
core_form (Core-F.Sequence parts) = Forms.sequence parts
core_form (Core-F.Chain first rest) = Forms.chain first rest
core_form (Core-F.Unary signs part) = Forms.unary signs part
core_form (Core-F.Or parts) = Forms.or parts
core_form (Core-F.And parts) = Forms.and parts
core_form Core-F.Root = Forms.root
core_form (Core-F.Path start parts) = Forms.path start parts
core_form (Core-F.Step axis test predicates) = Forms.step axis test predicates
core_form (Core-F.Filter start predicates) = Forms.filter_of start predicates
core_form (Core-F.Named kind name part) = Forms.named_node kind name part
core_form (Core-F.Unnamed kind part) = Forms.unnamed_node kind part
core_form (Core-F.Flwor clauses part) = flwor clauses part
core_form (Core-F.If part yes' no') = Forms.conditional part yes' no'
core_form (Core-F.Quantified which bindings part) =
    Forms.quantified which (map (λ (v, range). (bind v, range)) bindings) part

-- the meaning of a normal form in a frame
abbrev pub core_mean : Core → Meaning
core_mean = fold-Core Meaning ClauseMeaning core_form core_clause

-- and of a clause
abbrev pub core_clause_mean : CoreClause → ClauseMeaning
core_clause_mean = fold-CoreClause Meaning ClauseMeaning core_form core_clause

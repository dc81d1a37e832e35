use Rattle.std.proofs.Common.{rules, ◌≡◌, ◌+◌, ◌++◌, None, Some, false, map, length, string_bytes, sym, ap, ◌∙◌, subst, arith}
use Rattle.std.specs.Prelude.{bytes_eq, position}
use Rattle.std.specs.List.{list_any}
use Rattle.std.proofs.lemmas.List.{length-map}
use Rattle.xq_packed.specs.Packed.{IsNumbered, IsNumberOf}
use Rattle.xq_packed.proofs.Numbering.{any-names, found-names, none-found, number-of, numbered-stays, numbered-after, absent-both}
use Rattle.xq_packed.proofs.names.NameTable.number_of.Goals as goal

pub returns-in-Some-clause-number : goal.returns-in-Some-clause-number
returns-in-Some-clause-number c =
    let name = c.args.name.now in
    let items = c.self.inside.few.items in
    let few = map string_bytes items in
    let many = map string_bytes c.self.inside.many.keys in
    let at : position (λ k. bytes_eq name (string_bytes k)) items ≡ Some c.in-Some.place =
    ap (position (λ k. bytes_eq name (string_bytes k))) (sym c.deref.ensures.value) ∙ sym c.in-Some.ensures in
    subst (λ ns. IsNumberOf ns c.in-Some.place name) c.self.view_is
    (number-of (few ++ many) c.in-Some.place name c.self.invariant.distinct (numbered-stays few many c.in-Some.place name (found-names name items c.in-Some.place at)))

pub returns-in-Some-get_index_of-clause-number : goal.returns-in-Some-get_index_of-clause-number
returns-in-Some-get_index_of-clause-number c =
    let name = c.args.name.now in
    let few = map string_bytes c.self.inside.few.items in
    let many = map string_bytes c.self.inside.many.keys in
    let place = c.in-Some-get_index_of.place in
    let count : c.len.result ≡ length c.self.inside.few.items = search (rules, c.len.ensures) in
    let e : length few + place ≡ c.len.result + place = omega (arith, count, length-map c.self.inside.few.items string_bytes) in
    let here : IsNumbered (few ++ many) (c.len.result + place) name =
    subst (λ n. IsNumbered (few ++ many) n name) e (numbered-after few many place name (found-names name c.self.inside.many.keys place (sym c.in-Some-get_index_of.ensures.index))) in
    subst (λ ns. IsNumberOf ns (c.len.result + place) name) c.self.view_is
    (number-of (few ++ many) (c.len.result + place) name c.self.invariant.distinct here)

pub returns-in-None-clause-none : goal.returns-in-None-clause-none
returns-in-None-clause-none c =
    let name = c.args.name.now in
    let items = c.self.inside.few.items in
    let few = map string_bytes items in
    let many = map string_bytes c.self.inside.many.keys in
    let at : position (λ k. bytes_eq name (string_bytes k)) items ≡ None =
    ap (position (λ k. bytes_eq name (string_bytes k))) (sym c.deref.ensures.value) ∙ sym c.place_among.ensures ∙ c.in_default.is in
    subst (λ ns. list_any (bytes_eq name) ns ≡ false) c.self.view_is
    (absent-both name few many (none-found name items at) (sym (any-names name c.self.inside.many.keys) ∙ sym c.in-None.ensures.found))

-- The last of the places that pass a test.
use Rattle.std.proofs.Common.{◌≡◌, ◌≢◌, ℕ, suc, ◌+◌, ◌-◌, ◌<◌, ◌≤◌, List, [], ◌∷◌, ◌++◌, length, take, drop, get_or, Bool, true, false, cond, refl, sym, ◌∙◌, ap, append_assoc, arith}
use Rattle.std.specs.Prelude.{filter, slice_get, Some, None}
use Rattle.std.proofs.Math.Seq.{get_or-append_seam, drop-cons}
use Rattle.std.proofs.lemmas.List.{drop_all, length-append, take-append-drop}
use Rattle.std.proofs.lemmas.List.Elements.{filter-append}
use Rattle.std.proofs.lemmas.Option.{slice_get-get_or}
use Rattle.xq_atoms.specs.Text.{Text}
use Rattle.xq_trees.specs.Forest.{count}
use Rattle.xq_trees.specs.Tree.{Tree, nodes}
use Rattle.xq_trees.specs.declared.Axis.TheVariants as axis
use Rattle.xq_meaning.specs.declared.node_tests.Test.{Test}
use Rattle.xq_meaning.specs.declared.node_tests.Test.TheVariants as tests
use Rattle.xq_axes.specs.Nodes.{last_of}
use Rattle.xq_axes.specs.Reads.{span, span_end}
use Rattle.xq_axes.specs.Scans.{region}
use Rattle.xq_axes.specs.private.Hits.{is_among, is_wanted, below_where}
use Rattle.xq_axes.specs.private.Named.{is_below_one}
use Rattle.xq_axes.specs.private.Near.{IsOwner, EndWith}
use Rattle.xq_axes.specs.declared.near.Owner.{Owner}
use Rattle.xq_axes.proofs.Lists.{among_at, not_among, got, got_none}
use Rattle.xq_axes.proofs.ManyChildren.{children_named}
use Rattle.xq_axes.proofs.Named.{is_named_at}
use Rattle.xq_axes.proofs.OneNode.{none_after, to_children}
use Rattle.xq_axes.proofs.Sizes.{node_of}

-- # The end of a list

-- what ends so with others before it
pub end_after : (front part whole : List ℕ) (last : ℕ) → whole ≡ front ++ part → EndWith part last → EndWith whole last
end_after front part whole last e end = record {
  before = front ++ end.before;
  are = e ∙ ap (λ ns. front ++ ns) end.are ∙ sym (append_assoc front end.before (last ∷ []));
}

-- its last element
pub last_at : (all : List ℕ) (last : ℕ) → EndWith all last → Some last ≡ slice_get all (length all - 1)
last_at all last end =
    let n = ap length end.are in
    let many = length-append end.before (last ∷ []) in
    let i : length all - 1 ≡ length end.before = omega (arith, n, many) in
    sym (slice_get-get_or all (length all - 1) 0 (omega (arith, n, many))
    ∙ ap Some (ap (λ k. get_or all k 0) i ∙ ap (λ ns. get_or ns (length end.before) 0) end.are ∙ get_or-append_seam end.before last [] 0))

-- # The last of those that pass, found from the end on

module _ (f : ℕ → Bool) (ns : List ℕ) (i : ℕ) (h : i < length ns) (none : filter f (drop (i + 1) ns) ≡ []) where
  from : filter f (drop i ns) ≡ cond (f (get_or ns i 0)) (get_or ns i 0 ∷ []) []
  from =
      let s : suc i ≡ i + 1 = omega arith in
      ap (filter f) (drop-cons ns i 0 h ∙ ap (λ k. get_or ns i 0 ∷ drop k ns) s)
      ∙ ap (λ rest. cond (f (get_or ns i 0)) (get_or ns i 0 ∷ rest) rest) none

  pub last_found : f (get_or ns i 0) ≡ true → EndWith (filter f ns) (get_or ns i 0)
  last_found passes = record {
    before = filter f (take i ns);
    are =
        ap (filter f) (sym (take-append-drop i ns)) ∙ filter-append f (take i ns) (drop i ns)
        ∙ ap (λ rest. filter f (take i ns) ++ rest) (from ∙ ap (λ b. cond b (get_or ns i 0 ∷ []) []) passes);
  }

  pub none_found : f (get_or ns i 0) ≡ false → filter f (drop i ns) ≡ []
  none_found fails = from ∙ ap (λ b. cond b (get_or ns i 0 ∷ []) []) fails

-- # A place among one alone

pub is_it : (v u : ℕ) → u ≡ v → is_among (v ∷ []) u ≡ true
is_it v u e = among_at (v ∷ []) 0 u (omega arith) (sym e)

pub is_another : (v u : ℕ) → u ≢ v → is_among (v ∷ []) u ≡ false
is_another v u ne = not_among (v ∷ []) u (λ i h e. (let z : 0 ≡ i = omega (arith, h) in ne (sym (ap (λ k. get_or (v ∷ []) k 0) z ∙ e))))

-- # The last child with a name

-- it is the last of those of the places of the name below the node at which children lie
pub last_named : (t : Tree) (owner : Owner) (node_test : Test) (name : Text) (low child : ℕ) (part : List ℕ) → IsOwner t owner → node_test ≡ tests.Element (Some name) → low ≡ suc owner.place
    → below_where (is_named_at t name) (owner.last + 1) ≡ below_where (is_named_at t name) low ++ part → EndWith (filter (is_below_one t (owner.place ∷ [])) part) child
    → EndWith (below_where (is_wanted axis.Child node_test t (owner.place ∷ [])) (count (nodes t))) child
last_named t owner node_test name low child part is e from cut end =
    let vs = owner.place ∷ [] in
    let below = is_below_one t vs in
    let wanted = is_wanted axis.Child node_test t vs in
    let front = filter below (below_where (is_named_at t name) low) in
    let s = span low owner.last in
    let last = is.last in
    let ends = (node_of t owner.place is.is_there).ends in
    let there : span_end t s ≡ owner.last + 1 = omega (arith, ends, last, from) in
    let whole : below_where wanted (count (nodes t)) ≡ front ++ filter below part =
    sym (none_after axis.Child to_children t s owner (record { is = is; low = from; high = refl }) node_test)
    ∙ ap (below_where wanted) there
    ∙ sym (children_named t vs node_test name (owner.last + 1) e)
    ∙ ap (filter below) cut
    ∙ filter-append below (below_where (is_named_at t name) low) part in
    end_after front (filter below part) (below_where wanted (count (nodes t))) child whole end

-- # The same of a tree and a place that are equal

pub same_children : (test : Test) (t u : Tree) (v w : ℕ) → u ≡ t → w ≡ v → below_where (is_wanted axis.Child test u (w ∷ [])) (count (nodes u)) ≡ below_where (is_wanted axis.Child test t (v ∷ [])) (count (nodes t))
same_children test t u v w same at =
    ap (λ z. below_where (is_wanted axis.Child test z (w ∷ [])) (count (nodes z))) same
    ∙ ap (λ p. below_where (is_wanted axis.Child test t (p ∷ [])) (count (nodes t))) at

pub same_region : (t u : Tree) (v w before now after : ℕ) → u ≡ t → w ≡ v → now ≡ before → after ≤ now + length (region axis.Child u (w ∷ [])) → after ≤ before + length (region axis.Child t (v ∷ []))
same_region t u v w before now after same at none read =
    let bound : length (region axis.Child u (w ∷ [])) ≡ length (region axis.Child t (v ∷ [])) =
    ap (λ z. length (region axis.Child z (w ∷ []))) same ∙ ap (λ p. length (region axis.Child t (p ∷ []))) at in
    omega (arith, bound, none, read)

-- # The last one, as a list

pub last_one : (all : List ℕ) (n : ℕ) → Some n ≡ slice_get all (length all - 1) → n ∷ [] ≡ last_of all
last_one all n e =
    let i = length all - 1 in
    let at = got all i n (sym e) in
    let within = at.0 in
    sym (drop-cons all i 0 within ∙ ap (λ rest. get_or all i 0 ∷ rest) (drop_all (suc i) all (omega (arith, within))) ∙ ap (λ m. m ∷ []) at.1)

pub last_none : (all : List ℕ) → None ≡ slice_get all (length all - 1) → [] ≡ last_of all
last_none all e = sym (drop_all (length all - 1) all (got_none all (length all - 1) (sym e)))

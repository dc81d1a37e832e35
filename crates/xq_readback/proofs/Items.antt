-- What a result is quoted as gives the result again.
use Rattle.std.proofs.Common.{◌≡◌, List, [], ◌∷◌, ◌++◌, map, Ok, refl, sym, ap, ap₂, ◌∙◌, subst, append_assoc}
use Rattle.std.proofs.lemmas.List.{append-nil}
use Rattle.std.specs.Prelude.{codes}
use Rattle.xq_atoms.specs.Text.{Text}
use Rattle.xq_atoms.specs.Print.{print_atomic}
use Rattle.xq_trees.specs.Tree.{Tree}
use Rattle.xq_trees.specs.Print.{print}
use Rattle.xq_meaning.specs.Items.{Item, Node, Atom, root_of, tree_below}
use Rattle.xq_meaning.specs.Texts.{joined}
use Rattle.xq_meaning.specs.Print.{print_item, print_items}
use Rattle.xq_meaning.specs.Doing.{Outcome, go_on, give, in_turn, more}
use Rattle.xq_meaning.specs.Meaning.{Frame, Meaning, mean, first_frame}
use Rattle.xq_readback.specs.Quoted.{quoted_item}
use Rattle.xq_meaning.specs.Printable.{ArePrintable}
use Rattle.xq_readback.specs.Same.{SameItems}
use Rattle.xq_readback.specs.Readback.{QuotedGives}
use Rattle.xq_readback.proofs.Contents.{tree_more}
use Rattle.xq_readback.proofs.Nodes.{Gives, whole-is, tree_gives}
use Rattle.xq_readback.proofs.Values.{value-gives}

abbrev Done : Type 0
Done = Outcome (List Item)

-- after the items so far, the quoted items give the same items
pub record ItemsGive (trees : List Tree) (xs : List Item) (frame : Frame) (others : List Tree) (done : List Item) : Type 0 where
  pub items : List Item
  pub added : List Tree
  pub is : ◌≡◌ {A = Done} (in_turn (more (λ (part : Meaning). part frame)) done (map mean (map (quoted_item trees) xs)) others) (Ok (done ++ items), others ++ added)
  pub same : SameItems trees xs (others ++ added) items

-- one item more in front
next_is : (trees : List Tree) (x : Item) (xs : List Item) (frame : Frame) (others now : List Tree) (done items : List Item) (y : Item) (last : List Tree)
    → Gives (quoted_item trees x) frame others (y ∷ []) now
    → ◌≡◌ {A = Done} (in_turn (more (λ (part : Meaning). part frame)) (done ++ y ∷ []) (map mean (map (quoted_item trees) xs)) now) (Ok ((done ++ y ∷ []) ++ items), last)
    → ◌≡◌ {A = Done} (in_turn (more (λ (part : Meaning). part frame)) done (map mean (map (quoted_item trees) (x ∷ xs))) others) (Ok (done ++ y ∷ items), last)
next_is trees x xs frame others now done items y last one rest =
    ap (λ (o : Done). go_on (go_on o (λ (ys : List Item). give (done ++ ys))) (λ (next : List Item). in_turn (more (λ (part : Meaning). part frame)) next (map mean (map (quoted_item trees) xs)))) one
    ∙ rest ∙ (λ i. (Ok (append_assoc done (y ∷ []) items i), last))

-- items are given again, one after another
pub items_give : (trees : List Tree) (xs : List Item) → ArePrintable trees xs → (frame : Frame) (others : List Tree) (done : List Item) → ItemsGive trees xs frame others done
items_give trees [] are frame others done =
    (let p = sym (append-nil done) in let q = sym (append-nil others) in record { items = []; added = []; is = (λ i. (Ok (p i), q i)); same = tt })
items_give trees (Atom a ∷ xs) are frame others done =
    let rest = items_give trees xs are.1 frame others (done ++ Atom a ∷ []) in
    record {
      items = Atom a ∷ rest.items;
      added = rest.added;
      is = next_is trees (Atom a) xs frame others others done rest.items (Atom a) (others ++ rest.added) (value-gives frame others a are.0) rest.is;
      same = (refl, rest.same);
    }
items_give trees (Node p ∷ xs) are frame others done =
    let t : Tree = tree_below trees p in
    let one = tree_gives t are.0 frame others in
    let now : List Tree = others ++ one.added in
    let y : Item = Node (root_of one.number) in
    let rest = items_give trees xs are.1 frame now (done ++ y ∷ []) in
    let all : now ++ rest.added ≡ others ++ (one.added ++ rest.added) = append_assoc others one.added rest.added in
    record {
      items = y ∷ rest.items;
      added = one.added ++ rest.added;
      is = next_is trees (Node p) xs frame others now done rest.items y (now ++ rest.added) one.is rest.is ∙ (λ i. (Ok (done ++ y ∷ rest.items), all i));
      same = subst (λ (ts : List Tree). SameItems trees (Node p ∷ xs) ts (y ∷ rest.items)) all
          (sym (tree_more now rest.added one.number one.stands.0 ∙ one.stands.1), rest.same);
    }

-- ---- the same items have the same print

same_prints : (trees : List Tree) (xs : List Item) (others : List Tree) (ys : List Item) → SameItems trees xs others ys → map (print_item others) ys ≡ map (print_item trees) xs
same_prints trees [] others [] same = refl
same_prints trees [] others (y ∷ ys) same = absurd same
same_prints trees (x ∷ xs) others [] same = absurd same
same_prints trees (Atom a ∷ xs) others (Atom b ∷ ys) same = ap₂ (λ (t : Text) (ts : List Text). t ∷ ts) (ap print_atomic (sym same.0)) (same_prints trees xs others ys same.1)
same_prints trees (Node p ∷ xs) others (Node q ∷ ys) same = ap₂ (λ (t : Text) (ts : List Text). t ∷ ts) (ap print (sym same.0)) (same_prints trees xs others ys same.1)
same_prints trees (Atom a ∷ xs) others (Node q ∷ ys) same = absurd same.0
same_prints trees (Node p ∷ xs) others (Atom b ∷ ys) same = absurd same.0

pub same_text : (trees : List Tree) (xs : List Item) (others : List Tree) (ys : List Item) → SameItems trees xs others ys → print_items others ys ≡ print_items trees xs
same_text trees [] others [] same = refl
same_text trees [] others (y ∷ ys) same = absurd same
same_text trees (x ∷ xs) others [] same = absurd same
same_text trees (x ∷ xs) others (y ∷ ys) same = ap (joined (codes ", ")) (same_prints trees (x ∷ xs) others (y ∷ ys) same)

-- ---- the law

-- the law
pub quoted_gives : QuotedGives
quoted_gives = λ trees xs are addresses others.
    (let given = items_give trees xs are (first_frame addresses) others [] in
    record {
      items = given.items;
      added = given.added;
      is = whole-is (map (quoted_item trees) xs) (first_frame addresses) others ∙ given.is;
      same = given.same;
      printed = same_text trees xs (others ++ given.added) given.items given.same;
    })

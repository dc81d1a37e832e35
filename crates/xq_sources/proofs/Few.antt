-- Trees of few nodes, and their rows.
use Rattle.std.proofs.Common.{◌≡◌, ◌<◌, ◌+◌, List, [], ◌∷◌, ℕ, true, refl, sym, subst, arith}
use Rattle.std.specs.Prelude.{IsTrue}
use Rattle.std.specs.List.{IsDistinct}
use Rattle.std.specs.Str.{bytes_eq, IsUtf8}
use Rattle.std.proofs.lemmas.Str.{IsUtf8-nil}
use Rattle.std.proofs.lemmas.List.Elements.{All-nil, All-cons}
use Rattle.xq_trees.specs.Beside.{IsLow, MayMeet}
use Rattle.xq_trees.specs.Tree.{Label, is_legal, has_text, most_levels}
use Rattle.xq_trees.specs.Rows.{Row, AreRowsOf}
use Rattle.xq_trees.specs.declared.Kind.{Kind}
use Rattle.xq_trees.specs.declared.Kind.TheVariants.{Element, Text}
use Rattle.xq_trees.proofs.Beside.{are-rows-rooted, content-push, names-other, meet-none}
use Rattle.xq_packed.specs.Packed.{row}
use Rattle.xq_sources.specs.Grafts.{lone, around_text}

pub lone_rows : (kind : Kind) (name value : List ℕ) → IsUtf8 name → IsUtf8 value → is_legal kind name value ≡ true → AreRowsOf (row 0 0 kind name value ∷ []) (lone kind name value)
lone_rows kind name value n v legal =
    are-rows-rooted (record { kind = kind; name = name; value = value }) [] (row 0 0 kind name value ∷ [])
    (meet-none (record { kind = kind; name = name; value = value }) (n, v) legal) refl

pub around_rows : (name value : List ℕ) → IsUtf8 name → IsUtf8 value → is_legal Element name [] ≡ true → is_legal Text [] value ≡ true → IsTrue (has_text Text value) → AreRowsOf (row 1 0 Element name [] ∷ row 0 1 Text [] value ∷ []) (around_text name value)
around_rows name value n v root_legal text_legal has =
    are-rows-rooted root (lone Text [] value ∷ []) (row 1 0 Element name [] ∷ row 0 1 Text [] value ∷ []) meet refl
  where
    root : Label
    root = record { kind = Element; name = name; value = [] }

    text : Label
    text = record { kind = Text; name = []; value = value }

    low : IsLow (lone Text [] value)
    low = record {
      is_tree = (lone_rows Text [] value IsUtf8-nil v text_legal).is_tree;
      levels = All-cons (λ (r : Row). r.level + 1 < most_levels) (row 0 0 Text [] value) [] (omega arith) (All-nil (λ (r : Row). r.level + 1 < most_levels));
    }

    alone : MayMeet root []
    alone = meet-none root (n, IsUtf8-nil) root_legal

    meet : MayMeet root (lone Text [] value ∷ [])
    meet = record {
      text = alone.text;
      legal = alone.legal;
      content = content-push root [] text refl refl has refl;
      names = subst (IsDistinct bytes_eq) (sym (names-other [] text refl)) alone.names;
      trees = (low, tt);
      room = omega arith;
    }

-- The derived comparisons of keys are those of their values.
use Rattle.std.specs.Prelude.{◌≡◌, refl, true, false}
use Rattle.xq_atoms.specs.declared.atoms.GroupKey.{GroupKey}
use Rattle.xq_atoms.specs.declared.atoms.GroupKey.TheVariants.{Empty, Num, Text, Truth}
use Rattle.xq_atoms.specs.Derived.{group_key_eq, group_key_cmp}
use Rattle.xq_atoms.specs.Compare.{key_of, key_eq, key_cmp}

pub group_key_eq-is : (j k : GroupKey) → group_key_eq j k ≡ key_eq (key_of j) (key_of k)
group_key_eq-is Empty Empty = refl
group_key_eq-is (Num m) (Num n) = refl
group_key_eq-is (Text s) (Text t) = refl
group_key_eq-is (Truth false) (Truth false) = refl
group_key_eq-is (Truth false) (Truth true) = refl
group_key_eq-is (Truth true) (Truth false) = refl
group_key_eq-is (Truth true) (Truth true) = refl
group_key_eq-is j k = refl

pub group_key_cmp-is : (j k : GroupKey) → group_key_cmp j k ≡ key_cmp (key_of j) (key_of k)
group_key_cmp-is Empty Empty = refl
group_key_cmp-is (Num m) (Num n) = refl
group_key_cmp-is (Text s) (Text t) = refl
group_key_cmp-is (Truth p) (Truth q) = refl
group_key_cmp-is j k = refl

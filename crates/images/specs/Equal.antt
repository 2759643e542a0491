-- Equality of keys: keys are the same where all of their parts are. It is an equivalence, and equal keys are hashed
-- alike.
use Rattle.std.specs.Prelude.{ℕ, ◌≡◌, ◌==◌, nat_eq, Bool, true, ◌&&◌, List, ◌++◌}
use Rattle.std.specs.Bool.{Decides}
use Rattle.std.specs.Cmp.{IsEquivalence, both_ways, first_so, second_so}
use Rattle.std.specs.Cmp.Lexicographic.{pointwise, pointwise_decides}
use Rattle.std.specs.Hash as fed
use Rattle.std.specs.Hash.{HashWrites}
use Rattle.std.proofs.Common.{refl, sym, ap, ◌∙◌}
use Rattle.std.proofs.lemmas.Bool.Decides.{Decides-eqb}
use Rattle.lanes.specs.Sector.{mix}
use Rattle.images.specs.Keys.{ChangedValue, KeyValue}

-- the same sector with the same bytes
unfoldable pub same_sector : ChangedValue → ChangedValue → Bool
same_sector a b = (a.number == b.number) && pointwise nat_eq a.content b.content

-- two keys are the same in all that they hold
unfoldable pub same_key : KeyValue → KeyValue → Bool
same_key a b = (a.program == b.program) && ((a.epoch == b.epoch) && ((a.marks == b.marks) && pointwise same_sector a.changed b.changed))

-- what is fed to a hasher: of each sector its number and the mix of its bytes
unfoldable pub sector_input : ChangedValue → HashWrites
sector_input sector = fed.u32 sector.number ++ fed.u64 (mix sector.content)

-- what a key gives to a hasher
unfoldable pub key_input : KeyValue → HashWrites
key_input key = fed.u8 key.program ++ fed.u32 key.epoch ++ fed.u32 key.marks ++ fed.slice sector_input key.changed

both : (a b : Bool) → a ≡ true → b ≡ true → (a && b) ≡ true
both a b l r = ap (λ c. c && b) l ∙ r

same_content : (a b : List ℕ) → Decides (pointwise nat_eq a b) (a ≡ b)
same_content a b = pointwise_decides Decides-eqb a b

sector_itself : (a : ChangedValue) → same_sector a a ≡ true
unfolding same_sector
sector_itself a = both (a.number == a.number) (pointwise nat_eq a.content a.content) ((Decides-eqb a.number a.number).1 refl) ((same_content a.content a.content).1 refl)

-- equality of sectors is sameness
pub sector_decides : (a b : ChangedValue) → Decides (same_sector a b) (a ≡ b)
unfolding same_sector
sector_decides a b = (
  λ e.
      let number : a.number ≡ b.number = (Decides-eqb a.number b.number).0 (first_so (a.number == b.number) (pointwise nat_eq a.content b.content) e) in
      let content : a.content ≡ b.content = (same_content a.content b.content).0 (second_so (a.number == b.number) (pointwise nat_eq a.content b.content) e) in
      λ i. record { number = number i; content = content i },
  λ e. ap (same_sector a) (sym e) ∙ sector_itself a,
)

key_itself : (a : KeyValue) → same_key a a ≡ true
unfolding same_key
key_itself a =
    both _ _ ((Decides-eqb a.program a.program).1 refl)
    (both _ _ ((Decides-eqb a.epoch a.epoch).1 refl)
    (both _ _ ((Decides-eqb a.marks a.marks).1 refl) ((pointwise_decides sector_decides a.changed a.changed).1 refl)))

-- equality of keys is sameness
pub key_decides : (a b : KeyValue) → Decides (same_key a b) (a ≡ b)
unfolding same_key
key_decides a b = (
  λ e.
      let rest = second_so (a.program == b.program) ((a.epoch == b.epoch) && ((a.marks == b.marks) && pointwise same_sector a.changed b.changed)) e in
      let last = second_so (a.epoch == b.epoch) ((a.marks == b.marks) && pointwise same_sector a.changed b.changed) rest in
      let program : a.program ≡ b.program =
      (Decides-eqb a.program b.program).0 (first_so (a.program == b.program) ((a.epoch == b.epoch) && ((a.marks == b.marks) && pointwise same_sector a.changed b.changed)) e) in
      let epoch : a.epoch ≡ b.epoch = (Decides-eqb a.epoch b.epoch).0 (first_so (a.epoch == b.epoch) ((a.marks == b.marks) && pointwise same_sector a.changed b.changed) rest) in
      let marks : a.marks ≡ b.marks = (Decides-eqb a.marks b.marks).0 (first_so (a.marks == b.marks) (pointwise same_sector a.changed b.changed) last) in
      let changed : a.changed ≡ b.changed =
      (pointwise_decides sector_decides a.changed b.changed).0 (second_so (a.marks == b.marks) (pointwise same_sector a.changed b.changed) last) in
      λ i. record { program = program i; epoch = epoch i; marks = marks i; changed = changed i },
  λ e. ap (same_key a) (sym e) ∙ key_itself a,
)

-- a test of sameness is an equivalence
equivalence : {K : Type 0} (E : K → K → Bool) → ((x y : K) → Decides (E x y) (x ≡ y)) → IsEquivalence E
equivalence E same = record {
  refl = λ x. (same x x).1 refl;
  symm = λ x y. both_ways (E x y) (E y x) (λ e. (same y x).1 (sym ((same x y).0 e))) (λ e. (same x y).1 (sym ((same y x).0 e)));
  congr = λ x y z e. ap (λ w. E w z) ((same x y).0 e);
}

-- both tests are equivalences, and what is the same gives a hasher the same
pub sector_equivalence : IsEquivalence same_sector
sector_equivalence = equivalence same_sector sector_decides

pub key_equivalence : IsEquivalence same_key
key_equivalence = equivalence same_key key_decides

pub sector_alike : (a b : ChangedValue) → same_sector a b ≡ true → sector_input a ≡ sector_input b
sector_alike a b e = ap sector_input ((sector_decides a b).0 e)

pub key_alike : (a b : KeyValue) → same_key a b ≡ true → key_input a ≡ key_input b
key_alike a b e = ap key_input ((key_decides a b).0 e)

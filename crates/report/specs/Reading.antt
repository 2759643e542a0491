-- What reads a text back.
use Rattle.std.specs.Prelude.{ℕ, ◌≡◌, ◌<◌, ◌≤◌, ◌^◌, ◌==◌, false, Option, Some, List, [], ◌∷◌, ◌++◌, All, length}
use Rattle.epochs.specs.declared.part.By.{By}
use Rattle.choices.specs.declared.name.Name.{Name}
use Rattle.report.specs.ChoiceText.{part_text, name_text, names_text, IsPlace, IsName, IsTextOf}

-- no byte of a text is c
abbrev pub Lacks : ℕ → List ℕ → Type 0
Lacks c [] = Unit {0}
Lacks c (b ∷ bs) = ((b == c) ≡ false) × Lacks c bs

-- a text is cut at its first c
pub record IsCutAt (c : ℕ) (text front back : List ℕ) : Type 0 where
  pub parts : (xs ys : List ℕ) → Lacks c xs → text ≡ xs ++ c ∷ ys → (front ≡ xs) × (back ≡ ys)
  pub some : Lacks c text → ⊥

pub record NoCutAt (c : ℕ) (text : List ℕ) : Type 0 where
  pub none : (xs ys : List ℕ) → Lacks c xs → text ≡ xs ++ c ∷ ys → ⊥

-- the number of an entry and the place in it that a text says, if it is that of a part
pub record ReadsPart (way : By) (text : List ℕ) (found : Option (ℕ × ℕ)) : Type 0 where
  pub read : (entry place : ℕ) → entry < 2 ^ 32 → IsPlace way place → text ≡ part_text way entry place → found ≡ Some (entry, place)

-- the name that a text says, if it is that of one
pub record ReadsName (way : By) (text : List ℕ) (found : Option Name) : Type 0 where
  pub read : (n : Name) → IsName way n → text ≡ name_text way n → found ≡ Some n

-- where a text is that of one name, it is read, after those that were read before
pub record ReadsOne (way : By) (text : List ℕ) (old : List Name) (found : Option (List Name)) : Type 0 where
  pub read : (n : Name) → IsName way n → text ≡ name_text way n → found ≡ Some (old ++ n ∷ [])

-- where a text is that of one to k names, these are read, after those that were read before
pub record ReadsUpTo (way : By) (k : ℕ) (text : List ℕ) (old : List Name) (found : Option (List Name)) : Type 0 where
  pub read : (n : Name) (ns : List Name) → length (n ∷ ns) ≤ k → All (IsName way) (n ∷ ns) → text ≡ names_text way (n ∷ ns) → found ≡ Some (old ++ n ∷ ns)

-- where a text is that of names, it is of these
abbrev pub ReadsAs : By → List ℕ → List Name → Type 0
ReadsAs way text names = (ns : List Name) → IsTextOf way text ns → names ≡ ns

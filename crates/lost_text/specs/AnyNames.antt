-- The names of a choice of any number of parts, read from its text (docs/OUTPUT.md, The report).
use Rattle.std.specs.Prelude.{ℕ, ◌≡◌, ◌++◌, Bool, true, List, [], ◌∷◌, All, Option, Some}
use Rattle.epochs.specs.declared.part.By.{By}
use Rattle.choices.specs.declared.name.Name.{Name}
use Rattle.report.specs.ChoiceText.{name_text, names_text, IsName}

-- where a word is that of a name, the name is appended to some
pub record PushesName (way : By) (word : List ℕ) (old new : List Name) (is : Bool) : Type 0 where
  pub read : (n : Name) → IsName way n → word ≡ name_text way n → (is ≡ true) × (new ≡ old ++ n ∷ [])

-- where a text is that of some names, it is read as these
pub record ReadsSome (way : By) (text : List ℕ) (found : Option (List Name)) : Type 0 where
  pub read : (n : Name) (ns : List Name) → All (IsName way) (n ∷ ns) → text ≡ names_text way (n ∷ ns) → found ≡ Some (n ∷ ns)

-- the same of any names, or of none
pub record ReadsAny (way : By) (text : List ℕ) (found : Option (List Name)) : Type 0 where
  pub read : (ns : List Name) → All (IsName way) ns → text ≡ names_text way ns → found ≡ Some ns

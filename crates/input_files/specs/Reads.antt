-- What was read of the files of a command, in their order (docs/COMMANDS.md, How files are read).
use Rattle.std.specs.Prelude.{ℕ, ◌≡◌, ◌⊎◌, ◌++◌, List, [], ◌∷◌, length, take, true, Option, None, Some, IfSome, IsSome}
use Rattle.base.specs.declared.limits.Limits.{Limits}
use Rattle.input_files.specs.declared.kind.FileKind.{FileKind}
use Rattle.input_files.specs.Contents.{Holds}
use Rattle.input_files.specs.Kinds.{base_read, is_part, kind_of, left_beyond, most_of_parts}

-- what the files of a command hold, none where one can't be read, and the length that is told of each; and what the one after --base holds
pub record InputsValue : Type 0 where
  pub files : List (Option (List ℕ))
  pub lengths : List ℕ
  pub base : Option (Option (List ℕ))

-- what was read of the file of that name, taken for that kind: it was opened by that name, and holds this; or it can't be read
abbrev pub IsRead : {F : Type 0} → (F → List ℕ → Type 0) → (F → Option (List ℕ)) → List ℕ → FileKind → Option (List ℕ) → ℕ → Type 0
IsRead {F} named remaining name k held told =
    ((held ≡ None) × (told ≡ 0)) ⊎ ((file : F) × (said : Option ℕ) × named file name × IfSome (remaining file) (λ bytes. Holds k said bytes held told))

-- the files of these names were read in their order, each as the kind that the command takes it for; that many bytes are left for parts
pub data AreRead (command : List ℕ) (limits : Limits) (Read : List ℕ → FileKind → Option (List ℕ) → ℕ → Type 0) : ℕ → List (List ℕ) → List (Option (List ℕ)) → List ℕ → Type 0 where
  none_read : AreRead command limits Read most_of_parts [] [] []
  one_more : (left rest : ℕ) (names : List (List ℕ)) (files : List (Option (List ℕ))) (lengths : List ℕ) (name : List ℕ) (held : Option (List ℕ)) (told : ℕ)
      → AreRead command limits Read left names files lengths
      → Read name (kind_of command (length names) limits left) held told
      → (is_part (kind_of command (length names) limits left) ≡ true → IsSome held)
      → left_beyond (kind_of command (length names) limits left) told ≡ Some rest
      → AreRead command limits Read rest (names ++ (name ∷ [])) (files ++ (held ∷ [])) (lengths ++ (told ∷ []))

-- what was read of what a device of that many sectors held, from the file of that name: as many bytes as the device has and one more, of
-- the file that was opened by that name
abbrev pub IsBase : {F : Type 0} → (F → List ℕ → Type 0) → (F → Option (List ℕ)) → ℕ → Limits → List ℕ → List ℕ → Type 0
IsBase {F} named remaining sectors limits name held = (file : F) × named file name × IfSome (remaining file) (λ bytes. held ≡ take (base_read sectors limits) bytes)

-- what is held of the file after --base: nothing is held where none is named; of one that can't be read that it can't be
abbrev pub HoldsBase : (List ℕ → List ℕ → Type 0) → Option (List ℕ) → Option (Option (List ℕ)) → Type 0
HoldsBase Base None held = held ≡ None
HoldsBase Base (Some name) None = ⊥
HoldsBase Base (Some name) (Some held) = IfSome held (Base name)

-- what was read of all files of a command on a device of that size: of those of these names in their order, and of the one after --base
pub record AreInputs {F : Type 0} (named : F → List ℕ → Type 0) (remaining : F → Option (List ℕ)) (command : List ℕ) (sectors : ℕ) (limits : Limits) (names : List (List ℕ)) (base : Option (List ℕ)) (inputs : InputsValue) : Type 0 where
  pub left : ℕ
  pub read : AreRead command limits (IsRead named remaining) left names inputs.files inputs.lengths
  pub based : HoldsBase (IsBase named remaining sectors limits) base inputs.base

-- The files of a command, read one after the other.
use Rattle.std.proofs.Common.{ℕ, ◌≡◌, ◌+◌, ◌<◌, ◌≤◌, List, [], ◌∷◌, ◌++◌, length, map, take, get_or, Bool, true, false, not, Option, Some, None, IsSome, is_some, option_map, refl, sym, subst, ◌∙◌, ap, arith}
use Rattle.std.proofs.lemmas.List.{take_all, take_more, map-append, length-take-le, length-map}
use Rattle.base.specs.declared.limits.Limits.{Limits}
use Rattle.input_files.specs.declared.kind.FileKind.{FileKind}
use Rattle.input_files.specs.Kinds.{is_part, kind_of, left_beyond, most_of_parts}
use Rattle.input_files.specs.Reads.{AreInputs, AreRead, HoldsBase, InputsValue, IsBase, IsRead, none_read, one_more}

-- the names of one more
pub one_name_more : {V : Type 0} → (f : V → List ℕ) (names : List V) (i : ℕ) (name : V) (bytes : List ℕ) → i < length names → name ≡ get_or names i name → f name ≡ bytes
    → map f (take i names) ++ (bytes ∷ []) ≡ map f (take (i + 1) names)
one_name_more f names i name bytes there is told =
    sym (ap (map f) (take_more names i name there) ∙ map-append f (take i names) (get_or names i name ∷ []) ∙ ap (λ v. map f (take i names) ++ (f v ∷ [])) (sym is) ∙ ap (λ b. map f (take i names) ++ (b ∷ [])) told)

pub names_before : {V : Type 0} → (f : V → List ℕ) (names : List V) (i : ℕ) → i < length names → length (map f (take i names)) ≡ i
names_before f names i there = length-map (take i names) f ∙ length-take-le i names (omega (arith, there))

pub all_names : {V : Type 0} → (f : V → List ℕ) (names : List V) (i : ℕ) → length names ≤ i → map f (take i names) ≡ map f names
all_names f names i past = ap (map f) (take_all i names past)

-- one more file was read
pub next_read : (command : List ℕ) (limits : Limits) (Read : List ℕ → FileKind → Option (List ℕ) → ℕ → Type 0) (left rest place : ℕ) (names : List (List ℕ)) (files new_files : List (Option (List ℕ))) (lengths new_lengths : List ℕ)
    (name : List ℕ) (held : Option (List ℕ)) (told : ℕ) (k : FileKind) → new_files ≡ files ++ (held ∷ []) → new_lengths ≡ lengths ++ (told ∷ []) → k ≡ kind_of command place limits left
    → AreRead command limits Read left names files lengths → Read name k held told → length names ≡ place → (is_part k ≡ true → IsSome held) → left_beyond k told ≡ Some rest
    → AreRead command limits Read rest (names ++ (name ∷ [])) new_files new_lengths
next_read command limits Read left rest place names files new_files lengths new_lengths name held told k more longer is before read long some room =
    let same : k ≡ kind_of command (length names) limits left = is ∙ ap (λ p. kind_of command p limits left) (sym long) in
    subst (λ fs. AreRead command limits Read rest (names ++ (name ∷ [])) fs new_lengths) (sym more)
    (subst (λ ls. AreRead command limits Read rest (names ++ (name ∷ [])) (files ++ (held ∷ [])) ls) (sym longer)
    (one_more left rest names files lengths name held told before (subst (λ j. Read name j held told) same read)
    (subst (λ j. is_part j ≡ true → IsSome held) same some) (subst (λ j. left_beyond j told ≡ Some rest) same room)))

-- the files of a command were read, and the one after --base
pub inputs_read : {F : Type 0} → (named : F → List ℕ → Type 0) (remaining : F → Option (List ℕ)) (command : List ℕ) (sectors : ℕ) (limits : Limits) (names all : List (List ℕ)) (base : Option (List ℕ)) (left : ℕ)
    (before after : InputsValue) → AreRead command limits (IsRead named remaining) left names before.files before.lengths → HoldsBase (IsBase named remaining sectors limits) base after.base
    → names ≡ all → after.files ≡ before.files → after.lengths ≡ before.lengths → AreInputs named remaining command sectors limits all base after
inputs_read named remaining command sectors limits names all base left before after read based is files lengths = record {
  left = left;
  read = subst (λ ns. AreRead command limits (IsRead named remaining) left ns after.files after.lengths) is
      (subst (λ fs. AreRead command limits (IsRead named remaining) left names fs after.lengths) (sym files)
      (subst (λ ls. AreRead command limits (IsRead named remaining) left names before.files ls) (sym lengths) read));
  based = based;
}

-- none was read yet
pub start_read : (command : List ℕ) (limits : Limits) (Read : List ℕ → FileKind → Option (List ℕ) → ℕ → Type 0) (files : List (Option (List ℕ))) (lengths : List ℕ) → files ≡ [] → lengths ≡ []
    → AreRead command limits Read most_of_parts [] files lengths
start_read command limits Read files lengths no_files no_lengths =
    subst (λ fs. AreRead command limits Read most_of_parts [] fs lengths) (sym no_files) (subst (λ ls. AreRead command limits Read most_of_parts [] [] ls) (sym no_lengths) none_read)

-- the names as far as they were read, with one more
pub names_read : {V : Type 0} → (f : V → List ℕ) (command : List ℕ) (limits : Limits) (Read : List ℕ → FileKind → Option (List ℕ) → ℕ → Type 0) (left : ℕ) (names : List V) (i : ℕ) (name : V) (bytes : List ℕ) (files : List (Option (List ℕ))) (lengths : List ℕ)
    → AreRead command limits Read left (map f (take i names) ++ (bytes ∷ [])) files lengths → i < length names → name ≡ get_or names i name → f name ≡ bytes
    → AreRead command limits Read left (map f (take (i + 1) names)) files lengths
names_read f command limits Read left names i name bytes files lengths read there is told =
    subst (λ ns. AreRead command limits Read left ns files lengths) (one_name_more f names i name bytes there is told) read

-- what is there is there as bytes
pub some_held : {V : Type 0} → (f : V → List ℕ) (bytes : Option V) (none : Bool) → is_some bytes ≡ not none → none ≡ false → IsSome (option_map f bytes)
some_held f None none is lack = absurd (let bad : false ≡ true = is ∙ ap not lack in cc)
some_held f (Some b) none is lack = refl

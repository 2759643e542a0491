-- How the refusals of a run come about.
use Rattle.std.proofs.Common.{ℕ, zero, suc, ◌≡◌, ◌+◌, ◌<◌, ◌≤◌, ◌⊎◌, inl, inr, List, [], ◌∷◌, ◌++◌, length, map, take, get_or, Option, None, Some, slice_get, refl, sym, ◌∙◌, ap, subst, arith, length-append}
use Rattle.std.specs.Option.{option_map}
use Rattle.std.proofs.lemmas.List.{take_all}
use Rattle.std.proofs.lemmas.Option.{slice_get_read, slice_get-map}
use Rattle.base.specs.declared.causes.VerifierCause.TheVariants as verifier
use Rattle.base.specs.declared.refusal.Refusal.{Refusal}
use Rattle.bpf_isa.specs.declared.instr.Instr.{Instr}
use Rattle.bpf_isa.specs.Program.{IsSpelledBy, HasNoFault}
use Rattle.checker.specs.Checker.{CheckerValue}
use Rattle.request.specs.declared.settings.Settings.{Settings}
use Rattle.runs.specs.Programs.{IsRunWithin, AreFirstOf, AreFirstMade, AreDecoded, IsUndecoded, IsUnaccepted, IsVerifierFault, RefusesOneOf, unaccepted, no_checkers_memory, verifier_refusal}
use Rattle.runs.specs.Explore.{IsProgramCount, AreCheckersOf, RefusesProgram, with_code_fault, with_verifier_fault, no_code_memory, no_verifier_memory, no_list_memory}

-- the bytes of file n
pub file_there : {V : Type 0} (items : V → List ℕ) (files : List V) (n : ℕ) (f : V) (now : List ℕ) → n < length files → f ≡ get_or files n f
    → now ≡ items f → slice_get (map items files) n ≡ Some now
file_there items files n f now lt here same =
    slice_get-map items files n ∙ ap (option_map items) (slice_get_read files (length files) n f refl lt here) ∙ ap Some (sym same)

-- one more program
pub first-push : (files : List (List ℕ)) (programs : List (List (Option Instr))) (bytes : List ℕ) (slots : List (Option Instr))
    → AreFirstOf files programs → slice_get files (length programs) ≡ Some bytes → IsSpelledBy bytes slots → HasNoFault bytes
    → AreFirstOf files (programs ++ slots ∷ [])
first-push [] [] bytes slots h there spelled clean = absurd (let bad : None ≡ Some bytes = there in cc)
first-push [] (p ∷ ps) bytes slots h there spelled clean = absurd h
first-push (f ∷ fs) [] bytes slots h there spelled clean =
    let same : f ≡ bytes = (let e : Some f ≡ Some bytes = there in cc) in
    (subst (λ b. IsSpelledBy b slots) (sym same) spelled, subst HasNoFault (sym same) clean, tt)
first-push (f ∷ fs) (p ∷ ps) bytes slots h there spelled clean =
    (h.0, h.1, first-push fs ps bytes slots h.2 there spelled clean)

pub first_next : (files : List (List ℕ)) (programs : List (List (Option Instr))) (n : ℕ) (bytes : List ℕ) (slots : List (Option Instr))
    → AreFirstOf files programs × (length programs ≡ n) → slice_get files n ≡ Some bytes → IsSpelledBy bytes slots → HasNoFault bytes
    → AreFirstOf files (programs ++ slots ∷ []) × (length (programs ++ slots ∷ []) ≡ n + 1)
first_next files programs n bytes slots h there spelled clean = (
  first-push files programs bytes slots h.0 (subst (λ k. slice_get files k ≡ Some bytes) (sym h.1) there) spelled clean,
  omega (arith, h.1, length-append programs (slots ∷ [])),
)

-- the first program that can't be decoded
pub decoded_until : (files : List (List ℕ)) (programs : List (List (Option Instr))) (n : ℕ) (bytes : List ℕ) (r : Refusal)
    → AreFirstOf files programs × (length programs ≡ n) → slice_get files n ≡ Some bytes → IsUndecoded n bytes r → AreDecoded files programs (Some r)
decoded_until files programs n bytes r h there why =
    (h.0, (bytes, subst (λ k. slice_get files k ≡ Some bytes) (sym h.1) there, subst (λ k. IsUndecoded k bytes r) (sym h.1) why))

-- one more checker
pub made-push : (s : Settings) (programs : List (List (Option Instr))) (checkers : List CheckerValue) (slots : List (Option Instr)) (c : CheckerValue)
    → AreFirstMade s programs checkers → slice_get programs (length checkers) ≡ Some slots → c.program ≡ slots → IsRunWithin s.checked s.guards s.sectors c
    → AreFirstMade s programs (checkers ++ c ∷ [])
made-push s [] [] slots c h there same within = absurd (let bad : None ≡ Some slots = there in cc)
made-push s [] (d ∷ ds) slots c h there same within = absurd h
made-push s (p ∷ ps) [] slots c h there same within =
    let here : p ≡ slots = (let e : Some p ≡ Some slots = there in cc) in
    (same ∙ sym here, within, tt)
made-push s (p ∷ ps) (d ∷ ds) slots c h there same within =
    (h.0, h.1, made-push s ps ds slots c h.2 there same within)

pub made_next : (s : Settings) (programs : List (List (Option Instr))) (checkers : List CheckerValue) (n : ℕ) (slots : List (Option Instr)) (c : CheckerValue)
    → AreFirstMade s programs checkers × (length checkers ≡ n) → slice_get programs n ≡ Some slots → c.program ≡ slots → IsRunWithin s.checked s.guards s.sectors c
    → AreFirstMade s programs (checkers ++ c ∷ []) × (length (checkers ++ c ∷ []) ≡ n + 1)
made_next s programs checkers n slots c h there same within = (
  made-push s programs checkers slots c h.0 (subst (λ k. slice_get programs k ≡ Some slots) (sym h.1) there) same within,
  omega (arith, h.1, length-append checkers (c ∷ [])),
)

-- the first program that isn't accepted
pub refused_at : (s : Settings) (programs : List (List (Option Instr))) (checkers : List CheckerValue) (n : ℕ) (slots : List (Option Instr)) (r : Refusal)
    → AreFirstMade s programs checkers × (length checkers ≡ n) → slice_get programs n ≡ Some slots → IsUnaccepted s n slots r → RefusesOneOf s programs r
refused_at s programs checkers n slots r h there why =
    unaccepted r slots checkers h.0 (subst (λ k. slice_get programs k ≡ Some slots) (sym h.1) there) (subst (λ k. IsUnaccepted s k slots r) (sym h.1) why)

-- the checkers of files
pub checkers_of_files : (s : Settings) (files : List (List ℕ)) (programs : List (List (Option Instr))) (checkers : List CheckerValue)
    → AreFirstOf files programs → AreFirstMade s programs checkers → AreCheckersOf s (take (length checkers) files) checkers
checkers_of_files s files programs [] h made = tt
checkers_of_files s files [] (c ∷ cs) h made = absurd made
checkers_of_files s [] (p ∷ ps) (c ∷ cs) h made = absurd h
checkers_of_files s (f ∷ fs) (p ∷ ps) (c ∷ cs) h made =
    (record { spelled = subst (IsSpelledBy f) (sym made.0) h.0; clean = h.1; within = made.1 }, checkers_of_files s fs ps cs h.2 made.2)

-- where the program stands, its bytes stand
pub spelled_there : (files : List (List ℕ)) (programs : List (List (Option Instr))) (n : ℕ) (slots : List (Option Instr)) → AreFirstOf files programs
    → slice_get programs n ≡ Some slots → (bytes : List ℕ) × (slice_get files n ≡ Some bytes) × IsSpelledBy bytes slots
spelled_there files [] n slots h there = absurd (let bad : None ≡ Some slots = there in cc)
spelled_there [] (p ∷ ps) n slots h there = absurd h
spelled_there (f ∷ fs) (p ∷ ps) zero slots h there =
    let same : p ≡ slots = (let e : Some p ≡ Some slots = there in cc) in
    (f, refl, subst (IsSpelledBy f) same h.0)
spelled_there (f ∷ fs) (p ∷ ps) (suc n) slots h there = spelled_there fs ps n slots h.2 there

-- all were decoded and made checkers
pub all_made : (s : Settings) (files : List (List ℕ)) (programs : List (List (Option Instr))) (checkers : List CheckerValue)
    → AreFirstOf files programs → length programs ≡ length files → AreFirstMade s programs checkers → length checkers ≡ length programs
    → AreCheckersOf s files checkers
all_made s files programs checkers h long made all =
    subst (λ fs. AreCheckersOf s fs checkers) (take_all (length checkers) files (omega (arith, long, all))) (checkers_of_files s files programs checkers h made)

unaccepted_one : (s : Settings) (files : List (List ℕ)) (programs : List (List (Option Instr))) (r : Refusal) (n : ℕ) (slots : List (Option Instr)) (before : List CheckerValue)
    → AreFirstOf files programs → AreCheckersOf s (take n files) before → slice_get programs n ≡ Some slots → s.checked ≡ None
    → (r ≡ verifier_refusal n verifier.Memory 0) ⊎ IsVerifierFault s.guards s.sectors n slots r → RefusesProgram s files r
unaccepted_one s files programs r n slots before h made there unlimited (inl e) =
    let stands = spelled_there files programs n slots h there in
    rw e (no_verifier_memory n stands.0 slots before made stands.1 stands.2 unlimited)
unaccepted_one s files programs r n slots before h made there unlimited (inr fault) =
    let stands = spelled_there files programs n slots h there in
    with_verifier_fault r n stands.0 slots before made stands.1 stands.2 unlimited fault

-- a program is not accepted
pub one_refused : (s : Settings) (files : List (List ℕ)) (programs : List (List (Option Instr))) (r : Refusal)
    → AreFirstOf files programs → RefusesOneOf s programs r → RefusesProgram s files r
one_refused s files programs _ h (unaccepted r slots before made there why) =
    unaccepted_one s files programs r (length before) slots before h (checkers_of_files s files programs before h made) there why.unlimited why.why
one_refused s files programs _ h no_checkers_memory = no_list_memory

-- a program can't be decoded, and those before it are made checkers
pub undecoded_refused : (s : Settings) (files : List (List ℕ)) (checkers : List CheckerValue) (bytes : List ℕ) (r : Refusal) (n : ℕ)
    → AreCheckersOf s (take n files) checkers → slice_get files n ≡ Some bytes → IsUndecoded n bytes r → RefusesProgram s files r
undecoded_refused s files checkers bytes r n made there (inl e) = rw e (no_code_memory n bytes checkers made there)
undecoded_refused s files checkers bytes r n made there (inr h) = with_code_fault r n bytes checkers made there h

pub length_of_bytes : {V : Type 0} (items : V → List ℕ) (files : List V) → length (map items files) ≡ length files
length_of_bytes items [] = refl
length_of_bytes items (f ∷ fs) = ap suc (length_of_bytes items fs)

-- the files are as many as the programs that were handed in
pub counted : {V : Type 0} (items : V → List ℕ) (files : List V) → IsProgramCount (length files) → IsProgramCount (length (map items files))
counted items files h = rw (length_of_bytes items files) h

pub uncounted : {V : Type 0} (items : V → List ℕ) (files : List V) → IsProgramCount (length (map items files)) → IsProgramCount (length files)
uncounted items files h = rw (← length_of_bytes items files) h

-- there are no more programs than files
pub no_more_programs : (files : List (List ℕ)) (programs : List (List (Option Instr))) → AreFirstOf files programs → length programs ≤ length files
no_more_programs files [] h = omega arith
no_more_programs [] (p ∷ ps) h = absurd h
no_more_programs (f ∷ fs) (p ∷ ps) h = omega (arith, no_more_programs fs ps h.2)

-- what was decoded, as far as it goes
pub first_decoded : (files : List (List ℕ)) (programs : List (List (Option Instr))) (refusal : Option Refusal) → AreDecoded files programs refusal → AreFirstOf files programs
first_decoded files programs None h = h.0
first_decoded files programs (Some r) h = h.0

pub few_decoded : (files : List (List ℕ)) (programs now : List (List (Option Instr))) (refusal : Option Refusal) → length files ≤ 8 → now ≡ programs
    → AreDecoded files programs refusal → length now ≤ 8
few_decoded files programs now refusal few same h =
    omega (arith, few, ap (length {A = List (Option Instr)}) same, no_more_programs files programs (first_decoded files programs refusal h))

pub unaccepted_of : (s : Settings) (files : List (List ℕ)) (programs now : List (List (Option Instr))) (refusal : Option Refusal) (r : Refusal) → now ≡ programs
    → AreDecoded files programs refusal → RefusesOneOf s now r → RefusesProgram s files r
unaccepted_of s files programs now refusal r same h refused =
    one_refused s files programs r (first_decoded files programs refusal h) (subst (λ ps. RefusesOneOf s ps r) same refused)

pub undecoded_of : (s : Settings) (files : List (List ℕ)) (programs now : List (List (Option Instr))) (refusal : Option Refusal) (r : Refusal) (checkers : List CheckerValue)
    → now ≡ programs → AreDecoded files programs refusal → refusal ≡ Some r → AreFirstMade s now checkers → length checkers ≡ length now → RefusesProgram s files r
undecoded_of s files programs now None r checkers same h is made all = absurd (let bad : None ≡ Some r = is in cc)
undecoded_of s files programs now (Some found) r checkers same h is made all =
    let there : found ≡ r = (let e : Some found ≡ Some r = is in cc) in
    let long : length checkers ≡ length programs = all ∙ ap (length {A = List (Option Instr)}) same in
    undecoded_refused s files checkers h.1.0 r (length programs)
    (subst (λ n. AreCheckersOf s (take n files) checkers) long
    (checkers_of_files s files programs checkers h.0 (subst (λ ps. AreFirstMade s ps checkers) same made)))
    h.1.1 (subst (λ q. IsUndecoded (length programs) h.1.0 q) there h.1.2)

pub checkers_decoded : (s : Settings) (files : List (List ℕ)) (programs now : List (List (Option Instr))) (refusal : Option Refusal) (checkers : List CheckerValue)
    → now ≡ programs → AreDecoded files programs refusal → ((r : Refusal) → refusal ≡ Some r → ⊥) → AreFirstMade s now checkers → length checkers ≡ length now
    → AreCheckersOf s files checkers
checkers_decoded s files programs now None checkers same h none made all =
    all_made s files programs checkers h.0 h.1 (subst (λ ps. AreFirstMade s ps checkers) same made) (all ∙ ap (length {A = List (Option Instr)}) same)
checkers_decoded s files programs now (Some r) checkers same h none made all = absurd (none r refl)

-- The words of a choice's text, read back.
use Rattle.std.proofs.Common.{◌≡◌, ℕ, ◌+◌, ◌%◌, ◌<◌, ◌≤◌, ◌^◌, ◌==◌, true, false, List, [], ◌∷◌, ◌++◌, length, append_assoc, codes, get_or, Option, Some, None, refl, sym, ap, ◌∙◌, arith}
use Rattle.std.specs.Fmt.{decimal}
use Rattle.std.specs.Option.{option_map_or}
use Rattle.std.proofs.lemmas.Fmt.{decimal_by_steps, decimal_digit}
use Rattle.std.proofs.lemmas.Bool.Decides.{nat_tests}
use Rattle.choices.specs.declared.fate.Fate.{Fate}
use Rattle.choices.specs.declared.fate.Fate.TheVariants as fate
use Rattle.choices.specs.declared.name.Name.{Name}
use Rattle.choices.specs.CrashModel.{IsFate}
use Rattle.epochs.specs.declared.part.By.{By}
use Rattle.epochs.specs.declared.part.By.TheVariants as by
use Rattle.report.specs.ChoiceText.{fate_text, part_text, name_text, IsPlace, IsName}
use Rattle.report.specs.Reading.{Lacks, IsCutAt, NoCutAt, ReadsPart, ReadsName}
use Rattle.report.proofs.Cutting.{lacks_append}

-- no digit is that mark
abbrev NoDigit : ℕ → Type 0
NoDigit c = (k : ℕ) → k < 10 → ((48 + k) == c) ≡ false

number_lacks : (c n : ℕ) → NoDigit c → n < 2 ^ 64 → Lacks c (decimal n)
number_lacks c n other = decimal_by_steps (λ (m : ℕ) (ds : List ℕ). Lacks c ds) (λ m small. (other m small, tt))
    (λ m ds big l. lacks_append c ds ((48 + m % 10) ∷ []) l (other (m % 10) (omega arith), tt)) n

not_comma : NoDigit 44
not_comma k small = grind (arith, nat_tests)

not_point : NoDigit 46
not_point k small = grind (arith, nat_tests)

not_colon : NoDigit 58
not_colon k small = grind (arith, nat_tests)

fate_lacks : (f : Fate) → IsFate true f → Lacks 44 (fate_text f)
fate_lacks fate.Drop is = (refl, (refl, (refl, (refl, tt))))
fate_lacks (fate.Head t) (_, _, high) = lacks_append 44 (codes "head") (decimal t) (refl, (refl, (refl, (refl, tt)))) (number_lacks 44 t not_comma (omega arith))
fate_lacks (fate.Tail t) (_, _, high) = lacks_append 44 (codes "tail") (decimal t) (refl, (refl, (refl, (refl, tt)))) (number_lacks 44 t not_comma (omega arith))

sector_parts : (entry place : ℕ) → part_text by.Sector entry place ≡ decimal entry ++ 46 ∷ decimal place
unfolding part_text
sector_parts entry place = append_assoc (decimal entry) (codes ".") (decimal place)

write_parts : (entry place : ℕ) → part_text by.Write entry place ≡ decimal entry
unfolding part_text
write_parts entry place = refl

-- a part's text has digits and points alone
part_lacks : (c : ℕ) → NoDigit c → (46 == c) ≡ false → (way : By) (entry place : ℕ) → entry < 2 ^ 32 → IsPlace way place → Lacks c (part_text way entry place)
part_lacks c other point by.Sector entry place small is = rw (sector_parts entry place)
    (lacks_append c (decimal entry) (46 ∷ decimal place) (number_lacks c entry other (omega (arith, small))) (point, number_lacks c place other (omega (arith, is))))
part_lacks c other point by.Write entry place small is = rw (write_parts entry place) (number_lacks c entry other (omega (arith, small)))

pub name_parts : (way : By) (n : Name) → name_text way n ≡ part_text way n.entry n.place ++ 58 ∷ fate_text n.fate
unfolding name_text
name_parts way n = append_assoc (part_text way n.entry n.place) (codes ":") (fate_text n.fate)

pub name_lacks : (way : By) (n : Name) → IsName way n → Lacks 44 (name_text way n)
name_lacks way n is = rw (name_parts way n)
    (lacks_append 44 (part_text way n.entry n.place) (58 ∷ fate_text n.fate) (part_lacks 44 not_comma refl way n.entry n.place is.entry is.place)
    (refl, fate_lacks n.fate is.fate))

-- the cut of a name
parts_of : (way : By) (word front back : List ℕ) → IsCutAt 58 word front back → (n : Name) → IsName way n → word ≡ name_text way n → (front ≡ part_text way n.entry n.place) × (back ≡ fate_text n.fate)
parts_of way word front back cut n is e = cut.parts (part_text way n.entry n.place) (fate_text n.fate) (part_lacks 58 not_colon refl way n.entry n.place is.entry is.place) (e ∙ name_parts way n)

pub no_colon : (way : By) (word : List ℕ) → NoCutAt 58 word → ReadsName way word None
no_colon way word none = record { read = λ n is e. absurd (none.none (part_text way n.entry n.place) (fate_text n.fate) (part_lacks 58 not_colon refl way n.entry n.place is.entry is.place) (e ∙ name_parts way n)) }

pub no_part : (way : By) (word front back : List ℕ) → IsCutAt 58 word front back → ReadsPart way front None → ReadsName way word None
no_part way word front back cut none = record { read = reads }
  where
    reads : (n : Name) → IsName way n → word ≡ name_text way n → None ≡ Some n
    reads n is e =
        let bad : ◌≡◌ {A = Option (ℕ × ℕ)} None (Some (n.entry, n.place)) = none.read n.entry n.place is.entry is.place (parts_of way word front back cut n is e).0 in
        absurd cc

-- the cut of a part
front_of : (word front back : List ℕ) → IsCutAt 46 word front back → (entry place : ℕ) → entry < 2 ^ 32 → word ≡ part_text by.Sector entry place → (front ≡ decimal entry) × (back ≡ decimal place)
front_of word front back cut entry place small e = cut.parts (decimal entry) (decimal place) (number_lacks 46 entry not_point (omega (arith, small))) (e ∙ sector_parts entry place)

pub no_place : (word : List ℕ) → NoCutAt 46 word → ReadsPart by.Sector word None
no_place word none = record { read = λ entry place small is e. absurd (none.none (decimal entry) (decimal place) (number_lacks 46 entry not_point (omega (arith, small))) (e ∙ sector_parts entry place)) }

-- what a word's number is, if it is one
abbrev pub ReadsNumber : List ℕ → Option ℕ → Type 0
ReadsNumber word found = (n : ℕ) → n < 2 ^ 32 → word ≡ decimal n → found ≡ Some n

pub no_entry : (word front back : List ℕ) → IsCutAt 46 word front back → ReadsNumber front None → ReadsPart by.Sector word None
no_entry word front back cut none = record { read = λ entry place small is e. absurd (let bad : None ≡ Some entry = none entry small (front_of word front back cut entry place small e).0 in cc) }

pub no_number : (word front back : List ℕ) → IsCutAt 46 word front back → ReadsNumber back None → ReadsPart by.Sector word None
no_number word front back cut none = record { read = λ entry place small is e. absurd (let bad : None ≡ Some place = none place is (front_of word front back cut entry place small e).1 in cc) }

pair_is : (a b c d : ℕ) → a ≡ c → b ≡ d → ◌≡◌ {A = Option (ℕ × ℕ)} (Some (a, b)) (Some (c, d))
pair_is a b c d first second = cc

pair_first : (a b c d : ℕ) → ◌≡◌ {A = Option (ℕ × ℕ)} (Some (a, b)) (Some (c, d)) → a ≡ c
pair_first a b c d e = ap (λ (o : Option (ℕ × ℕ)). option_map_or (λ (p : ℕ × ℕ). p.0) o 0) e

pair_second : (a b c d : ℕ) → ◌≡◌ {A = Option (ℕ × ℕ)} (Some (a, b)) (Some (c, d)) → b ≡ d
pair_second a b c d e = ap (λ (o : Option (ℕ × ℕ)). option_map_or (λ (p : ℕ × ℕ). p.1) o 0) e

pub place_read : (word front back : List ℕ) (a b : ℕ) → IsCutAt 46 word front back → ReadsNumber front (Some a) → ReadsNumber back (Some b) → ReadsPart by.Sector word (Some (a, b))
place_read word front back a b cut first second = record { read = reads }
  where
    reads : (entry place : ℕ) → entry < 2 ^ 32 → place < 2 ^ 32 → word ≡ part_text by.Sector entry place → ◌≡◌ {A = Option (ℕ × ℕ)} (Some (a, b)) (Some (entry, place))
    reads entry place small is e =
        let parts = front_of word front back cut entry place small e in
        let one : Some a ≡ Some entry = first entry small parts.0 in
        let two : Some b ≡ Some place = second place is parts.1 in
        let same_entry : a ≡ entry = cc in
        let same_place : b ≡ place = cc in
        pair_is a b entry place same_entry same_place

pub no_write : (word : List ℕ) → ReadsNumber word None → ReadsPart by.Write word None
no_write word none = record { read = λ entry place small is e. absurd (let bad : None ≡ Some entry = none entry small (e ∙ write_parts entry place) in cc) }

pub write_read : (word : List ℕ) (a : ℕ) → ReadsNumber word (Some a) → ReadsPart by.Write word (Some (a, 0))
write_read word a own = record { read = reads }
  where
    reads : (entry place : ℕ) → entry < 2 ^ 32 → place ≡ 0 → word ≡ part_text by.Write entry place → ◌≡◌ {A = Option (ℕ × ℕ)} (Some (a, 0)) (Some (entry, place))
    reads entry place small is e =
        let one : Some a ≡ Some entry = own entry small (e ∙ write_parts entry place) in
        let same_entry : a ≡ entry = cc in
        pair_is a 0 entry place same_entry (sym is)

-- the bytes of a fate
head_text : (t : ℕ) → t < 8 → fate_text (fate.Head t) ≡ 104 ∷ 101 ∷ 97 ∷ 100 ∷ (48 + t) ∷ []
head_text t small = rw (decimal_digit t (omega (arith, small))) refl

tail_text : (t : ℕ) → t < 8 → fate_text (fate.Tail t) ≡ 116 ∷ 97 ∷ 105 ∷ 108 ∷ (48 + t) ∷ []
tail_text t small = rw (decimal_digit t (omega (arith, small))) refl

-- the fate that a word says, if it says one
abbrev pub ReadsFate : List ℕ → Option Fate → Type 0
ReadsFate word found = (f : Fate) → IsFate true f → word ≡ fate_text f → found ≡ Some f

pub drop_read : (word : List ℕ) → word ≡ codes "drop" → ReadsFate word (Some fate.Drop)
drop_read word same fate.Drop is e = refl
drop_read word same (fate.Head t) is e = absurd (omega (arith, ap length same, ap length (e ∙ head_text t is.2)))
drop_read word same (fate.Tail t) is e = absurd (omega (arith, ap length same, ap length (e ∙ tail_text t is.2)))

pub no_length : (word : List ℕ) → (word ≡ codes "drop" → ⊥) → (length word ≡ 5 → ⊥) → ReadsFate word None
no_length word other long fate.Drop is e = absurd (other e)
no_length word other long (fate.Head t) is e = absurd (long (ap length (e ∙ head_text t is.2)))
no_length word other long (fate.Tail t) is e = absurd (long (ap length (e ∙ tail_text t is.2)))

-- the eighths that a digit says
abbrev pub ReadsEighths : ℕ → Option ℕ → Type 0
ReadsEighths digit found = (n : ℕ) → 1 ≤ n → n < 8 → digit ≡ 48 + n → found ≡ Some n

pub no_eighths : (word : List ℕ) → (word ≡ codes "drop" → ⊥) → ReadsEighths (get_or word 4 0) None → ReadsFate word None
no_eighths word other none fate.Drop is e = absurd (other e)
no_eighths word other none (fate.Head t) is e = absurd (let bad : None ≡ Some t = none t is.1 is.2 (ap (λ (bytes : List ℕ). get_or bytes 4 0) (e ∙ head_text t is.2)) in cc)
no_eighths word other none (fate.Tail t) is e = absurd (let bad : None ≡ Some t = none t is.1 is.2 (ap (λ (bytes : List ℕ). get_or bytes 4 0) (e ∙ tail_text t is.2)) in cc)

pub head_read : (word : List ℕ) (n : ℕ) → (word ≡ codes "drop" → ⊥) → get_or word 0 0 ≡ 104 → ReadsEighths (get_or word 4 0) (Some n) → ReadsFate word (Some (fate.Head n))
head_read word n other first own fate.Drop is e = absurd (other e)
head_read word n other first own (fate.Head t) is e =
    let given : Some n ≡ Some t = own t is.1 is.2 (ap (λ (bytes : List ℕ). get_or bytes 4 0) (e ∙ head_text t is.2)) in
    let same : n ≡ t = cc in
    ap (λ (k : ℕ). Some (fate.Head k)) same
head_read word n other first own (fate.Tail t) is e = absurd (omega (arith, first, ap (λ (bytes : List ℕ). get_or bytes 0 0) (e ∙ tail_text t is.2)))

pub tail_read : (word : List ℕ) (n : ℕ) → (word ≡ codes "drop" → ⊥) → (get_or word 0 0 ≡ 104 → ⊥) → ReadsEighths (get_or word 4 0) (Some n) → ReadsFate word (Some (fate.Tail n))
tail_read word n other first own fate.Drop is e = absurd (other e)
tail_read word n other first own (fate.Head t) is e = absurd (first (ap (λ (bytes : List ℕ). get_or bytes 0 0) (e ∙ head_text t is.2)))
tail_read word n other first own (fate.Tail t) is e =
    let given : Some n ≡ Some t = own t is.1 is.2 (ap (λ (bytes : List ℕ). get_or bytes 4 0) (e ∙ tail_text t is.2)) in
    let same : n ≡ t = cc in
    ap (λ (k : ℕ). Some (fate.Tail k)) same

pub no_fate : (way : By) (word front back : List ℕ) → IsCutAt 58 word front back → ReadsFate back None → ReadsName way word None
no_fate way word front back cut none = record { read = λ n is e. absurd (let bad : None ≡ Some n.fate = none n.fate is.fate (parts_of way word front back cut n is e).1 in cc) }

-- a name of the same three
same_name : (a b : ℕ) (f : Fate) (n : Name) → a ≡ n.entry → b ≡ n.place → f ≡ n.fate → Some (record { entry = a; place = b; fate = f }) ≡ Some n
same_name a b f n first second third = rw (first, second, third) refl

pub name_read : (way : By) (word front back : List ℕ) (a b : ℕ) (f : Fate) → IsCutAt 58 word front back → ReadsPart way front (Some (a, b)) → ReadsFate back (Some f)
    → ReadsName way word (Some (record { entry = a; place = b; fate = f }))
name_read way word front back a b f cut part own = record { read = reads }
  where
    reads : (n : Name) → IsName way n → word ≡ name_text way n → Some (record { entry = a; place = b; fate = f }) ≡ Some n
    reads n is e =
        let parts = parts_of way word front back cut n is e in
        let numbers : ◌≡◌ {A = Option (ℕ × ℕ)} (Some (a, b)) (Some (n.entry, n.place)) = part.read n.entry n.place is.entry is.place parts.0 in
        let third : Some f ≡ Some n.fate = own n.fate is.fate parts.1 in
        let same_fate : f ≡ n.fate = cc in
        same_name a b f n (pair_first a b n.entry n.place numbers) (pair_second a b n.entry n.place numbers) same_fate

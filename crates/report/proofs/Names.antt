-- The names of a text, one after the other.
use Rattle.std.proofs.Common.{◌≡◌, ℕ, ◌+◌, ◌-◌, ◌<◌, ◌≤◌, suc, List, [], ◌∷◌, ◌++◌, length, length-append, All, codes, Option, Some, None, refl, ap, ◌∙◌, arith}
use Rattle.std.specs.Fmt.{decimal}
use Rattle.std.proofs.lemmas.List.{append-nil}
use Rattle.epochs.specs.declared.part.By.{By}
use Rattle.choices.specs.declared.name.Name.{Name}
use Rattle.choices.specs.declared.fate.Fate.{Fate}
use Rattle.choices.specs.declared.fate.Fate.TheVariants as fate
use Rattle.report.specs.ChoiceText.{fate_text, part_text, name_text, names_text, IsName, IsTextOf, NoNames}
use Rattle.report.specs.Reading.{IsCutAt, NoCutAt, ReadsName, ReadsOne, ReadsUpTo, ReadsAs}
use Rattle.report.proofs.Words.{name_lacks, name_parts}

one_is : (way : By) (n : Name) → names_text way (n ∷ []) ≡ name_text way n
unfolding names_text
one_is way n = append-nil (name_text way n)

more_is : (way : By) (n m : Name) (ns : List Name) → names_text way (n ∷ m ∷ ns) ≡ name_text way n ++ 44 ∷ names_text way (m ∷ ns)
unfolding names_text
more_is way n m ns = refl

first_is : (way : By) (n : Name) (ns : List Name) → All (IsName way) (n ∷ ns) → IsName way n
first_is way n ns is = is 0 n (omega arith)

rest_are : (way : By) (n : Name) (ns : List Name) → All (IsName way) (n ∷ ns) → All (IsName way) ns
rest_are way n ns is = λ k d l. is (suc k) d (omega (arith, l))

pub unread : (way : By) (text : List ℕ) (old : List Name) → ReadsName way text None → ReadsOne way text old None
unread way text old none = record { read = λ n is e. absurd (let bad : None ≡ Some n = none.read n is e in cc) }

pub read_one : (way : By) (text : List ℕ) (old now : List Name) (a : Name) → ReadsName way text (Some a) → now ≡ old ++ a ∷ [] → ReadsOne way text old (Some now)
read_one way text old now a own pushed = record { read = reads }
  where
    reads : (n : Name) → IsName way n → text ≡ name_text way n → Some now ≡ Some (old ++ n ∷ [])
    reads n is e =
        let given : Some a ≡ Some n = own.read n is e in
        let same : a ≡ n = cc in
        ap (λ (names : List Name). Some names) (pushed ∙ ap (λ (b : Name). old ++ b ∷ []) same)

pub none_left : (way : By) (left : ℕ) (text : List ℕ) (old : List Name) → left ≡ 0 → ReadsUpTo way left text old None
none_left way left text old zero = record { read = λ n ns few is e. absurd (omega (arith, few, zero)) }

pub last_read : (way : By) (left : ℕ) (text : List ℕ) (old : List Name) (found : Option (List Name)) → NoCutAt 44 text → ReadsOne way text old found → ReadsUpTo way left text old found
last_read way left text old found whole one = record { read = reads }
  where
    reads : (n : Name) (ns : List Name) → length (n ∷ ns) ≤ left → All (IsName way) (n ∷ ns) → text ≡ names_text way (n ∷ ns) → found ≡ Some (old ++ n ∷ ns)
    reads n [] few is e = one.read n (first_is way n [] is) (e ∙ one_is way n)
    reads n (m ∷ ns) few is e = absurd (whole.none (name_text way n) (names_text way (m ∷ ns)) (name_lacks way n (first_is way n (m ∷ ns) is)) (e ∙ more_is way n m ns))

one_is_whole : (way : By) (text first beyond : List ℕ) → IsCutAt 44 text first beyond → (n : Name) → IsName way n → text ≡ names_text way (n ∷ []) → ⊥
one_is_whole way text first beyond cut n is e = cut.some (rw (e ∙ one_is way n) (name_lacks way n is))

pub first_unread : (way : By) (left : ℕ) (text : List ℕ) (old : List Name) (first beyond : List ℕ) → IsCutAt 44 text first beyond
    → ReadsName way first None → ReadsUpTo way left text old None
first_unread way left text old first beyond cut unread = record { read = reads }
  where
    reads : (n : Name) (ns : List Name) → length (n ∷ ns) ≤ left → All (IsName way) (n ∷ ns) → text ≡ names_text way (n ∷ ns) → None ≡ Some (old ++ n ∷ ns)
    reads n [] few is e = absurd (one_is_whole way text first beyond cut n (first_is way n [] is) e)
    reads n (m ∷ ns) few is e =
        let parts = cut.parts (name_text way n) (names_text way (m ∷ ns)) (name_lacks way n (first_is way n (m ∷ ns) is)) (e ∙ more_is way n m ns) in
        absurd (let bad : None ≡ Some n = unread.read n (first_is way n (m ∷ ns) is) parts.0 in cc)

append_one : (old : List Name) (a n : Name) (ns : List Name) → a ≡ n → (old ++ a ∷ []) ++ ns ≡ old ++ n ∷ ns
append_one [] a n ns same = ap (λ (b : Name). b ∷ ns) same
append_one (x ∷ old) a n ns same = ap (λ (rest : List Name). x ∷ rest) (append_one old a n ns same)

pub first_read : (way : By) (left : ℕ) (text : List ℕ) (old : List Name) (found : Option (List Name)) (first beyond : List ℕ) (a : Name) → IsCutAt 44 text first beyond
    → ReadsName way first (Some a) → ReadsUpTo way (left - 1) beyond (old ++ a ∷ []) found → ReadsUpTo way left text old found
first_read way left text old found first beyond a cut own rest = record { read = reads }
  where
    reads : (n : Name) (ns : List Name) → length (n ∷ ns) ≤ left → All (IsName way) (n ∷ ns) → text ≡ names_text way (n ∷ ns) → found ≡ Some (old ++ n ∷ ns)
    reads n [] few is e = absurd (one_is_whole way text first beyond cut n (first_is way n [] is) e)
    reads n (m ∷ ns) few is e =
        let parts = cut.parts (name_text way n) (names_text way (m ∷ ns)) (name_lacks way n (first_is way n (m ∷ ns) is)) (e ∙ more_is way n m ns) in
        let given : Some a ≡ Some n = own.read n (first_is way n (m ∷ ns) is) parts.0 in
        let same : a ≡ n = cc in
        rest.read m ns (omega (arith, few)) (rest_are way n (m ∷ ns) is) parts.1 ∙ ap (λ (names : List Name). Some names) (append_one old a n (m ∷ ns) same)

hyphen_is : (way : By) → names_text way [] ≡ codes "-"
unfolding names_text
hyphen_is way = refl

-- a name has more than one byte
name_long : (way : By) (n : Name) (rest : List ℕ) → 1 < length (name_text way n ++ rest)
name_long way n rest =
    let whole : length (name_text way n ++ rest) ≡ length (name_text way n) + length rest = length-append (name_text way n) rest in
    let name : length (name_text way n) ≡ length (part_text way n.entry n.place) + suc (length (fate_text n.fate)) = ap length (name_parts way n) ∙ length-append (part_text way n.entry n.place) (58 ∷ fate_text n.fate) in
    omega (arith, whole, name, fate_long n.fate)
  where
    fate_long : (f : Fate) → 0 < length (fate_text f)
    fate_long fate.Drop = omega arith
    fate_long (fate.Head t) = omega (arith, length-append (codes "head") (decimal t))
    fate_long (fate.Tail t) = omega (arith, length-append (codes "tail") (decimal t))

names_long : (way : By) (n : Name) (ns : List Name) → 1 < length (names_text way (n ∷ ns))
unfolding names_text
names_long way n ns = name_long way n _

pub hyphen_read : (way : By) (text : List ℕ) (names : List Name) → names ≡ [] → text ≡ codes "-" → ReadsAs way text names
hyphen_read way text names empty e [] is = empty
hyphen_read way text names empty e (n ∷ ns) is =
    let short : length text ≡ 1 = ap length e in
    let long : 1 < length text = rw is.printed (names_long way n ns) in
    absurd (omega (arith, short, long))

pub some_read : (way : By) (text : List ℕ) (names : List Name) → (text ≡ codes "-" → ⊥) → ReadsUpTo way 3 text [] (Some names) → ReadsAs way text names
some_read way text names other read [] is = absurd (other (is.printed ∙ hyphen_is way))
some_read way text names other read (n ∷ ns) is = let given : Some names ≡ Some (n ∷ ns) = read.read n ns is.names.few is.names.names is.printed in cc

pub none_read : (way : By) (text : List ℕ) → (text ≡ codes "-" → ⊥) → ReadsUpTo way 3 text [] None → NoNames way text
none_read way text other read = record { none = none }
  where
    none : (ns : List Name) → IsTextOf way text ns → ⊥
    none [] is = other (is.printed ∙ hyphen_is way)
    none (n ∷ ns) is = let bad : None ≡ Some (n ∷ ns) = read.read n ns is.names.few is.names.names is.printed in absurd cc

pub none_printed : (way : By) (text : List ℕ) (names : List Name) → ReadsAs way text names → (text ≡ names_text way names → ⊥) → NoNames way text
none_printed way text names read other = record { none = λ ns is. other (rw (read ns is) is.printed) }

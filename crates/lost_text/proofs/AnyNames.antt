-- Names of any number, read from a text.
use Rattle.std.proofs.Common.{◌≡◌, ℕ, ◌+◌, ◌<◌, suc, Bool, true, false, List, [], ◌∷◌, ◌++◌, length, length-append, All, codes, Option, Some, None, Bor, IfSome, refl, sym, subst, ap, ◌∙◌, arith, append_assoc}
use Rattle.std.specs.Fmt.{decimal}
use Rattle.std.proofs.lemmas.List.{append-nil}
use Rattle.std.proofs.lemmas.List.Elements.{All-nil, All-cons}
use Rattle.std.proofs.lemmas.Str.Pattern.{IsSplitOnceResult, split_parts}
use Rattle.epochs.specs.declared.part.By.{By}
use Rattle.choices.specs.declared.name.Name.{Name}
use Rattle.choices.specs.declared.fate.Fate.{Fate}
use Rattle.choices.specs.declared.fate.Fate.TheVariants as fate
use Rattle.report.specs.ChoiceText.{fate_text, part_text, name_text, names_text, IsName, IsTextOf, NoNames}
use Rattle.report.specs.Reading.{Lacks, IsCutAt, NoCutAt, ReadsName, ReadsAs}
use Rattle.report.proofs.Words.{name_lacks, name_parts}
use Rattle.lost_text.specs.AnyNames.{PushesName, ReadsSome, ReadsAny}

-- the text after a comma is shorter
pub cut_shorter : (text : List ℕ) (r : Option (Bor (List ℕ) × Bor (List ℕ))) → IsSplitOnceResult 44 text r → IfSome r (λ x. length x.1.now < length text)
cut_shorter text None split = tt
cut_shorter text (Some x) split =
    let parts = split_parts 44 text (Some x) split (omega arith) in
    let long : length text ≡ length x.0.now + suc (length x.1.now) = ap length parts.0 ∙ length-append x.0.now (44 ∷ x.1.now) in
    omega (arith, long)

-- the text of one name, and of more

one_is : (way : By) (n : Name) → names_text way (n ∷ []) ≡ name_text way n
unfolding names_text
one_is way n = append-nil (name_text way n)

more_is : (way : By) (n m : Name) (ns : List Name) → names_text way (n ∷ m ∷ ns) ≡ name_text way n ++ 44 ∷ names_text way (m ∷ ns)
unfolding names_text
more_is way n m ns = refl

first_is : (way : By) (n : Name) (ns : List Name) → All (IsName way) (n ∷ ns) → IsName way n
first_is way n ns is = is 0 n (omega arith)

rest_are : (way : By) (n : Name) (ns : List Name) → All (IsName way) (n ∷ ns) → All (IsName way) ns
rest_are way n ns is = λ k d l. is (suc k) d (omega (arith, l))

-- a word of one name
one_text : (way : By) (word : List ℕ) (n : Name) → IsName way n → word ≡ name_text way n → IsTextOf way word (n ∷ [])
one_text way word n is e = record {
  names = record { few = omega arith; names = All-cons (IsName way) n [] is (All-nil (IsName way)) };
  printed = e ∙ sym (one_is way n);
}

pub word_unread : (way : By) (word : List ℕ) → NoNames way word → ReadsName way word None
word_unread way word none = record { read = λ n is e. absurd (none.none (n ∷ []) (one_text way word n is e)) }

pub word_read : (way : By) (word : List ℕ) (names : List Name) (r : Option Name) → ReadsAs way word names → ((n : Name) → names ≡ n ∷ [] → r ≡ Some n) → ReadsName way word r
word_read way word names r back only = record { read = λ n is e. only n (back (n ∷ []) (one_text way word n is e)) }

pub pushed : (way : By) (word : List ℕ) (old new : List Name) (a : Name) → ReadsName way word (Some a) → new ≡ old ++ a ∷ [] → PushesName way word old new true
pushed way word old new a own put = record { read = reads }
  where
    reads : (n : Name) → IsName way n → word ≡ name_text way n → (true ≡ true) × (new ≡ old ++ n ∷ [])
    reads n is e =
        let given : Some a ≡ Some n = own.read n is e in
        let same : a ≡ n = cc in
        (refl, put ∙ ap (λ (b : Name). old ++ b ∷ []) same)

pub not_pushed : (way : By) (word : List ℕ) (old new : List Name) → ReadsName way word None → PushesName way word old new false
not_pushed way word old new own = record { read = λ n is e. absurd (let bad : None ≡ Some n = own.read n is e in cc) }

-- some names were read of a text, and others stand in the rest
pub record Leaves (way : By) (all old : List Name) (rest : List ℕ) : Type 0 where
  pub name : Name
  pub names : List Name
  pub are : All (IsName way) (name ∷ names)
  pub whole : all ≡ old ++ name ∷ names
  pub stands : rest ≡ names_text way (name ∷ names)

pub record Going (way : By) (text : List ℕ) (old : List Name) (rest : List ℕ) : Type 0 where
  pub on : (n : Name) (ns : List Name) → All (IsName way) (n ∷ ns) → text ≡ names_text way (n ∷ ns) → Leaves way (n ∷ ns) old rest

pub going_start : (way : By) (text : List ℕ) (old : List Name) → old ≡ [] → Going way text old text
going_start way text old none = record { on = λ n ns are e. record { name = n; names = ns; are = are; whole = sym (ap (λ (xs : List Name). xs ++ n ∷ ns) none); stands = e } }

-- where names stand in a text with a comma, the first is before it
step : (way : By) (all old new : List Name) (rest word beyond : List ℕ) (is : Bool) → IsCutAt 44 rest word beyond → PushesName way word old new is
    → (m : Name) (ms : List Name) → All (IsName way) (m ∷ ms) → all ≡ old ++ m ∷ ms → rest ≡ names_text way (m ∷ ms) → (is ≡ true) × Leaves way all new beyond
step way all old new rest word beyond is cut push m [] are whole stands =
    absurd (cut.some (subst (Lacks 44) (sym (stands ∙ one_is way m)) (name_lacks way m (first_is way m [] are))))
step way all old new rest word beyond is cut push m (k ∷ ms) are whole stands =
    let one = first_is way m (k ∷ ms) are in
    let parts = cut.parts (name_text way m) (names_text way (k ∷ ms)) (name_lacks way m one) (stands ∙ more_is way m k ms) in
    let own = push.read m one parts.0 in (
      own.0,
      record {
        name = k;
        names = ms;
        are = rest_are way m (k ∷ ms) are;
        whole = whole ∙ sym (append_assoc old (m ∷ []) (k ∷ ms)) ∙ ap (λ (xs : List Name). xs ++ k ∷ ms) (sym own.1);
        stands = parts.1;
      },
    )

pub going_on : (way : By) (text : List ℕ) (old new : List Name) (rest word beyond : List ℕ) (is : Bool) → Going way text old rest → IsCutAt 44 rest word beyond
    → PushesName way word old new is → Going way text new beyond
going_on way text old new rest word beyond is going cut push = record {
  on = λ n ns are e.
      let it = going.on n ns are e in
      (step way (n ∷ ns) old new rest word beyond is cut push it.name it.names it.are it.whole it.stands).1;
}

pub stopped : (way : By) (text : List ℕ) (old new : List Name) (rest word beyond : List ℕ) (is : Bool) → Going way text old rest → IsCutAt 44 rest word beyond
    → PushesName way word old new is → is ≡ false → ReadsSome way text None
stopped way text old new rest word beyond is going cut push unread = record {
  read = λ n ns are e.
      let it = going.on n ns are e in
      let told = (step way (n ∷ ns) old new rest word beyond is cut push it.name it.names it.are it.whole it.stands).0 in
      absurd (let bad : false ≡ true = sym unread ∙ told in cc);
}

-- the last word
last_step : (way : By) (all old new : List Name) (rest : List ℕ) (is : Bool) → NoCutAt 44 rest → PushesName way rest old new is
    → (m : Name) (ms : List Name) → All (IsName way) (m ∷ ms) → all ≡ old ++ m ∷ ms → rest ≡ names_text way (m ∷ ms) → (is ≡ true) × (new ≡ all)
last_step way all old new rest is whole_rest push m [] are whole stands =
    let own = push.read m (first_is way m [] are) (stands ∙ one_is way m) in
    (own.0, own.1 ∙ sym whole)
last_step way all old new rest is whole_rest push m (k ∷ ms) are whole stands =
    absurd (whole_rest.none (name_text way m) (names_text way (k ∷ ms)) (name_lacks way m (first_is way m (k ∷ ms) are)) (stands ∙ more_is way m k ms))

pub ended : (way : By) (text : List ℕ) (old new : List Name) (rest : List ℕ) (is : Bool) → Going way text old rest → NoCutAt 44 rest → PushesName way rest old new is
    → ReadsSome way text (Some new)
ended way text old new rest is going whole_rest push = record {
  read = λ n ns are e.
      let it = going.on n ns are e in
      ap (λ (xs : List Name). Some xs) (last_step way (n ∷ ns) old new rest is whole_rest push it.name it.names it.are it.whole it.stands).1;
}

pub unended : (way : By) (text : List ℕ) (old new : List Name) (rest : List ℕ) (is : Bool) → Going way text old rest → NoCutAt 44 rest → PushesName way rest old new is
    → is ≡ false → ReadsSome way text None
unended way text old new rest is going whole_rest push unread = record {
  read = λ n ns are e.
      let it = going.on n ns are e in
      let told = (last_step way (n ∷ ns) old new rest is whole_rest push it.name it.names it.are it.whole it.stands).0 in
      absurd (let bad : false ≡ true = sym unread ∙ told in cc);
}

-- a hyphen stands for no name

fate_long : (f : Fate) → 0 < length (fate_text f)
fate_long fate.Drop = omega arith
fate_long (fate.Head t) = omega (arith, length-append (codes "head") (decimal t))
fate_long (fate.Tail t) = omega (arith, length-append (codes "tail") (decimal t))

names_long : (way : By) (n : Name) (ns : List Name) → 1 < length (names_text way (n ∷ ns))
unfolding names_text
names_long way n ns = long _
  where
    long : (rest : List ℕ) → 1 < length (name_text way n ++ rest)
    long rest =
        let whole : length (name_text way n ++ rest) ≡ length (name_text way n) + length rest = length-append (name_text way n) rest in
        let name : length (name_text way n) ≡ length (part_text way n.entry n.place) + suc (length (fate_text n.fate)) =
        ap length (name_parts way n) ∙ length-append (part_text way n.entry n.place) (58 ∷ fate_text n.fate) in
        omega (arith, whole, name, fate_long n.fate)

hyphen_is : (way : By) → names_text way [] ≡ codes "-"
unfolding names_text
hyphen_is way = refl

pub hyphen_printed : (way : By) (text : List ℕ) (names : List Name) → names ≡ [] → text ≡ codes "-" → text ≡ names_text way names
hyphen_printed way text names none e = e ∙ sym (hyphen_is way) ∙ ap (names_text way) (sym none)

pub hyphen_said : (way : By) (text : List ℕ) (names : List Name) → names ≡ [] → text ≡ codes "-" → ReadsAny way text (Some names)
hyphen_said way text names none e = record { read = reads }
  where
    reads : (ns : List Name) → All (IsName way) ns → text ≡ names_text way ns → Some names ≡ Some ns
    reads [] are printed = ap (λ (xs : List Name). Some xs) none
    reads (n ∷ ns) are printed =
        let short : length text ≡ 1 = ap length e in
        let same : length text ≡ length (names_text way (n ∷ ns)) = ap length printed in
        absurd (omega (arith, short, same, names_long way n ns))

pub any_said : (way : By) (text : List ℕ) (found : Option (List Name)) → (text ≡ codes "-" → ⊥) → ReadsSome way text found → ReadsAny way text found
any_said way text found other some = record { read = reads }
  where
    reads : (ns : List Name) → All (IsName way) ns → text ≡ names_text way ns → found ≡ Some ns
    reads [] are printed = absurd (other (printed ∙ hyphen_is way))
    reads (n ∷ ns) are printed = some.read n ns are printed

-- names that aren't printed to the text are none of its names
pub others_said : (way : By) (text : List ℕ) (names : List Name) → (text ≡ names_text way names → ⊥) → ReadsAny way text (Some names) → ReadsAny way text None
others_said way text names other any = record {
  read = λ ns are printed.
      let given : Some names ≡ Some ns = any.read ns are printed in
      let same : names ≡ ns = cc in
      absurd (other (printed ∙ ap (names_text way) (sym same)));
}

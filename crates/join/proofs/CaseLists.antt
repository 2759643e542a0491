-- Lists of parts and of fates, read.
use Rattle.std.proofs.Common.{ℕ, zero, suc, ◌≡◌, ◌≢◌, ◌+◌, ◌<◌, ◌≤◌, ◌^◌, ◌==◌, Bool, true, false, if◌then◌else◌, List, [], ◌∷◌, ◌++◌, length, length-append, get_or, append_assoc, append-nil, codes, Option, None, Some, refl, sym, subst, ap, ◌∙◌, arith}
use Rattle.std.specs.Fmt.{decimal}
use Rattle.std.specs.List.{flat_map}
use Rattle.std.proofs.lemmas.Fmt.{decimal_nonempty}
use Rattle.std.proofs.lemmas.Bool.Decides.{nat_tests}
use Rattle.epochs.specs.declared.part.By.{By}
use Rattle.epochs.specs.declared.part.By.TheVariants as by
use Rattle.choices.specs.declared.fate.Fate.{Fate}
use Rattle.choices.specs.declared.fate.Fate.TheVariants as fate
use Rattle.choices.specs.declared.name.Name.{Name}
use Rattle.choices.specs.CrashModel.{IsFate}
use Rattle.report.specs.ChoiceText.{fate_text, part_text, name_text, names_text, IsPlace, IsName}
use Rattle.report.specs.MarkReading.{lacks, IsCutAt}
use Rattle.report.proofs.Back.{lacks_both}
use Rattle.case_text.specs.Text.{fate_word, fates_text}
use Rattle.join.specs.declared.case_parts.names.PartName.{PartName}
use Rattle.join.specs.Reading.{IsCut, NoCut}
use Rattle.join.specs.CaseTexts.{MixedPart, parts_text, mixed_text}
use Rattle.join.specs.CaseReading.{Each, IsPartName, IsPossible, IsMixedPart, ReadsPossible, ReadsPartName, ReadsOneName, ReadsMixedPart, listed, HasReadSome, HasReadAll, ReadsNames, ReadsParts, ReadsFates, mixed_list, ReadsMixed}
use Rattle.join.proofs.Texts.{one_cut, has_it}
use Rattle.join.proofs.Spans.{NoDigit, number_lacks}
use Rattle.join.proofs.WordsRead.{less}
use Rattle.join.proofs.CaseWords.{part_lacks}

-- of a list nothing is read yet
pub begun : {A : Type 0} (mark : ℕ) (P : A → Type 0) (text : A → List ℕ) (whole : List ℕ) → HasReadSome mark P text whole [] whole
begun mark P text whole = record { read = λ a more each e. (a, more, refl, each, e) }

-- one more is read
pub on : {A : Type 0} (mark : ℕ) (P : A → Type 0) (text : A → List ℕ) (whole rest front back : List ℕ) (done : List A) (found : A) → ((x : A) → P x → lacks mark (text x) ≡ true)
    → ((x : A) → P x → front ≡ text x → found ≡ x) → HasReadSome mark P text whole done rest → IsCut mark rest front back → HasReadSome mark P text whole (done ++ found ∷ []) back
on {A} mark P text whole rest front back done found own says h cut = record { read = reads }
  where
    next : (b : A) (left : List A) → Each P (b ∷ left) → rest ≡ listed mark text b left
        → (c : A) × (others : List A) × (b ∷ left ≡ found ∷ c ∷ others) × Each P (c ∷ others) × (back ≡ listed mark text c others)
    next b [] each e =
        absurd (has_it mark front back (subst (λ (bs : List ℕ). lacks mark bs ≡ true) (sym (append-nil (text b)) ∙ sym e ∙ cut.is) (own b each.0)))
    next b (c ∷ others) each e =
        let p = one_cut mark front (text b) back (listed mark text c others) cut.first (own b each.0) (sym cut.is ∙ e) in
        let same : found ≡ b = says b each.0 p.0 in
        (c, others, ap (λ (x : A). x ∷ c ∷ others) (sym same), each.1, p.1)

    reads : (a : A) (more : List A) → Each P (a ∷ more) → whole ≡ listed mark text a more
        → (b : A) × (left : List A) × (a ∷ more ≡ (done ++ found ∷ []) ++ b ∷ left) × Each P (b ∷ left) × (back ≡ listed mark text b left)
    reads a more each e =
        let (b, left, are, left_each, rest_is) = h.read a more each e in
        let (c, others, same, others_each, back_is) = next b left left_each rest_is in
        (c, others, are ∙ ap (λ (xs : List A). done ++ xs) same ∙ sym (append_assoc done (found ∷ []) (c ∷ others)), others_each, back_is)

-- the last one is
pub all : {A : Type 0} (mark : ℕ) (P : A → Type 0) (text : A → List ℕ) (whole rest : List ℕ) (done : List A) (found : A) → ((x : A) → P x → rest ≡ text x → found ≡ x)
    → HasReadSome mark P text whole done rest → NoCut mark rest → HasReadAll mark P text whole (done ++ found ∷ [])
all {A} mark P text whole rest done found says h lack = record { read = reads }
  where
    last : (b : A) (left : List A) → Each P (b ∷ left) → rest ≡ listed mark text b left → b ∷ left ≡ found ∷ []
    last b [] each e = ap (λ (x : A). x ∷ []) (sym (says b each.0 (e ∙ append-nil (text b))))
    last b (c ∷ others) each e = absurd (has_it mark (text b) (listed mark text c others) (subst (λ (bs : List ℕ). lacks mark bs ≡ true) e lack.none))

    reads : (a : A) (more : List A) → Each P (a ∷ more) → whole ≡ listed mark text a more → done ++ found ∷ [] ≡ a ∷ more
    reads a more each e =
        let (b, left, are, left_each, rest_is) = h.read a more each e in
        sym (are ∙ ap (λ (xs : List A). done ++ xs) (last b left left_each rest_is))

-- a mark that stands in no part and no fate
pub record IsMark (c : ℕ) : Type 0 where
  pub digits : NoDigit c
  pub point : (46 == c) ≡ false
  pub colon : (58 == c) ≡ false
  pub drop : lacks c (codes "drop") ≡ true
  pub head : lacks c (codes "head") ≡ true
  pub tail : lacks c (codes "tail") ≡ true
  pub whole : lacks c (codes "whole") ≡ true

comma_digits : NoDigit 44
comma_digits k small = grind (arith, nat_tests)

plus_digits : NoDigit 43
plus_digits k small = grind (arith, nat_tests)

blank_digits : NoDigit 32
blank_digits k small = grind (arith, nat_tests)

line_digits : NoDigit 10
line_digits k small = grind (arith, nat_tests)

hyphen_digits : NoDigit 45
hyphen_digits k small = grind (arith, nat_tests)

colon_digits : NoDigit 58
colon_digits k small = grind (arith, nat_tests)

pub comma : IsMark 44
comma = record { digits = comma_digits; point = refl; colon = refl; drop = refl; head = refl; tail = refl; whole = refl }

pub plus : IsMark 43
plus = record { digits = plus_digits; point = refl; colon = refl; drop = refl; head = refl; tail = refl; whole = refl }

pub blank : IsMark 32
blank = record { digits = blank_digits; point = refl; colon = refl; drop = refl; head = refl; tail = refl; whole = refl }

pub newline : IsMark 10
newline = record { digits = line_digits; point = refl; colon = refl; drop = refl; head = refl; tail = refl; whole = refl }

fate_lacks : (c : ℕ) → IsMark c → (f : Fate) → IsFate true f → lacks c (fate_text f) ≡ true
fate_lacks c m fate.Drop is = m.drop
fate_lacks c m (fate.Head t) (_, _, high) = lacks_both c (codes "head") (decimal t) m.head (number_lacks c t m.digits (omega (arith, high)))
fate_lacks c m (fate.Tail t) (_, _, high) = lacks_both c (codes "tail") (decimal t) m.tail (number_lacks c t m.digits (omega (arith, high)))

word_lacks : (c : ℕ) → IsMark c → (f : Option Fate) → IsPossible f → lacks c (fate_word f) ≡ true
word_lacks c m None is = m.whole
word_lacks c m (Some f) is = fate_lacks c m f is

name_is : (way : By) (n : Name) → name_text way n ≡ part_text way n.entry n.place ++ 58 ∷ fate_text n.fate
unfolding name_text
name_is way n = append_assoc (part_text way n.entry n.place) (codes ":") (fate_text n.fate)

pub name_lacks : (c : ℕ) → IsMark c → (way : By) (n : Name) → IsName way n → lacks c (name_text way n) ≡ true
name_lacks c m way n is =
    let colon = m.colon in
    let own = fate_lacks c m n.fate is.fate in
    rw (name_is way n) (lacks_both c (part_text way n.entry n.place) (58 ∷ fate_text n.fate) (part_lacks c m.digits m.point way n.entry n.place is.entry is.place) (rw colon own))

-- a list lacks what its elements and its mark lack
pub next_lacks : {A : Type 0} (c mark : ℕ) (P : A → Type 0) (text : A → List ℕ) → ((x : A) → P x → lacks c (text x) ≡ true) → (mark == c) ≡ false → (xs : List A) → Each P xs
    → lacks c (flat_map (λ (x : A). mark ∷ text x) xs) ≡ true
next_lacks c mark P text own other [] each = refl
next_lacks {A} c mark P text own other (x ∷ xs) each =
    lacks_both c (mark ∷ text x) (flat_map (λ (y : A). mark ∷ text y) xs) (let lack = own x each.0 in rw other lack) (next_lacks c mark P text own other xs each.1)

pub listed_lacks : {A : Type 0} (c mark : ℕ) (P : A → Type 0) (text : A → List ℕ) → ((x : A) → P x → lacks c (text x) ≡ true) → (mark == c) ≡ false → (a : A) (more : List A) → Each P (a ∷ more)
    → lacks c (listed mark text a more) ≡ true
listed_lacks {A} c mark P text own other a more each = lacks_both c (text a) (flat_map (λ (y : A). mark ∷ text y) more) (own a each.0) (next_lacks c mark P text own other more each.1)

fates_are : (f : Option Fate) (fs : List (Option Fate)) → fates_text (f ∷ fs) ≡ listed 43 fate_word f fs
unfolding fates_text
fates_are f fs = refl

fates_lack : (c : ℕ) → IsMark c → (43 == c) ≡ false → (fs : List (Option Fate)) → Each IsPossible fs → lacks c (fates_text fs) ≡ true
unfolding fates_text
fates_lack c m other [] each = refl
fates_lack c m other (f ∷ fs) each = listed_lacks c 43 IsPossible fate_word (word_lacks c m) other f fs each

mixed_is : (way : By) (m : MixedPart) → mixed_text way m ≡ part_text way m.part.entry m.part.place ++ 58 ∷ fates_text m.fates
unfolding mixed_text
mixed_is way m = append_assoc (part_text way m.part.entry m.part.place) (codes ":") (fates_text m.fates)

pub mixed_lacks : (c : ℕ) → IsMark c → (43 == c) ≡ false → (way : By) (m : MixedPart) → IsMixedPart way m → lacks c (mixed_text way m) ≡ true
mixed_lacks c mark other way m is =
    let colon = mark.colon in
    let own = fates_lack c mark other m.fates is.fates in
    rw (mixed_is way m) (lacks_both c (part_text way m.part.entry m.part.place) (58 ∷ fates_text m.fates) (part_lacks c mark.digits mark.point way m.part.entry m.part.place is.part.entry is.part.place) (rw colon own))

-- a text of parts is no hyphen
no_hyphen : (xs ys : List ℕ) → 0 < length xs → lacks 45 xs ≡ true → xs ++ ys ≢ codes "-"
no_hyphen [] ys some own e = omega (arith, some)
no_hyphen (x ∷ xs) ys some own e =
    let first : x ≡ 45 = ap (λ (bs : List ℕ). get_or bs 0 0) e in
    let bad : false ≡ true = subst (λ (y : ℕ). lacks 45 (y ∷ xs) ≡ true) first own in
    absurd cc

sector_is : (entry place : ℕ) → part_text by.Sector entry place ≡ decimal entry ++ 46 ∷ decimal place
unfolding part_text
sector_is entry place = append_assoc (decimal entry) (codes ".") (decimal place)

write_is : (entry place : ℕ) → part_text by.Write entry place ≡ decimal entry
unfolding part_text
write_is entry place = refl

pub part_some : (way : By) (entry place : ℕ) → entry < 2 ^ 32 → 0 < length (part_text way entry place)
part_some by.Sector entry place small = rw (sector_is entry place) (let some = decimal_nonempty entry (less entry small) in let long = length-append (decimal entry) (46 ∷ decimal place) in omega (arith, some, long))
part_some by.Write entry place small = rw (write_is entry place) (decimal_nonempty entry (less entry small))

-- names
names_are : (way : By) (n : Name) (ns : List Name) → names_text way (n ∷ ns) ≡ listed 44 (name_text way) n ns
unfolding names_text
names_are way n ns = refl

names_none : (way : By) → names_text way [] ≡ codes "-"
unfolding names_text
names_none way = refl

pub no_names : (way : By) (text : List ℕ) (found : List Name) → found ≡ [] → text ≡ codes "-" → ReadsNames way text found
no_names way text found none is = record { read = reads }
  where
    reads : (ns : List Name) → Each (IsName way) ns → text ≡ names_text way ns → found ≡ ns
    reads [] each e = none
    reads (n ∷ ns) each e =
        let own = each.0 in
        let rest : List ℕ = 58 ∷ (fate_text n.fate ++ flat_map (λ (m : Name). 44 ∷ name_text way m) ns) in
        let whole : part_text way n.entry n.place ++ rest ≡ codes "-" =
        sym (append_assoc (part_text way n.entry n.place) (58 ∷ fate_text n.fate) (flat_map (λ (m : Name). 44 ∷ name_text way m) ns)) ∙ ap (λ (bs : List ℕ). bs ++ flat_map (λ (m : Name). 44 ∷ name_text way m) ns) (sym (name_is way n)) ∙ sym (names_are way n ns) ∙ sym e ∙ is in
        absurd (no_hyphen (part_text way n.entry n.place) rest (part_some way n.entry n.place own.entry) (part_lacks 45 hyphen_digits refl way n.entry n.place own.entry own.place) whole)

pub names_begun : (way : By) (text : List ℕ) (done : List Name) → done ≡ [] → HasReadSome 44 (IsName way) (name_text way) text done text
names_begun way text done none = subst (λ (xs : List Name). HasReadSome 44 (IsName way) (name_text way) text xs text) (sym none) (begun 44 (IsName way) (name_text way) text)

pub names_on : (way : By) (text rest front back : List ℕ) (done now : List Name) (found : Name) → HasReadSome 44 (IsName way) (name_text way) text done rest → IsCut 44 rest front back → ReadsOneName way front found
    → now ≡ done ++ found ∷ [] → HasReadSome 44 (IsName way) (name_text way) text now back
names_on way text rest front back done now found h cut r pushed =
    subst (λ (xs : List Name). HasReadSome 44 (IsName way) (name_text way) text xs back) (sym pushed)
    (on 44 (IsName way) (name_text way) text rest front back done found (name_lacks 44 comma way) (λ x own e. r.read x own e) h cut)

pub names_read : (way : By) (text rest : List ℕ) (done now : List Name) (found : Name) → (text ≡ codes "-" → ⊥) → HasReadSome 44 (IsName way) (name_text way) text done rest → NoCut 44 rest → ReadsOneName way rest found
    → now ≡ done ++ found ∷ [] → ReadsNames way text now
names_read way text rest done now found other h lack r pushed = record { read = reads }
  where
    reads : (ns : List Name) → Each (IsName way) ns → text ≡ names_text way ns → now ≡ ns
    reads [] each e = absurd (other (e ∙ names_none way))
    reads (n ∷ ns) each e = pushed ∙ (all 44 (IsName way) (name_text way) text rest done found (λ x own is. r.read x own is) h lack).read n ns each (e ∙ names_are way n ns)

-- parts
abbrev pub name_of_part : By → PartName → List ℕ
name_of_part way p = part_text way p.entry p.place

parts_are : (way : By) (p : PartName) (ps : List PartName) → parts_text way (p ∷ ps) ≡ listed 44 (name_of_part way) p ps
unfolding parts_text
parts_are way p ps = refl

parts_none : (way : By) → parts_text way [] ≡ codes "-"
unfolding parts_text
parts_none way = refl

pub one_lacks : (c : ℕ) → IsMark c → (way : By) (p : PartName) → IsPartName way p → lacks c (name_of_part way p) ≡ true
one_lacks c m way p is = part_lacks c m.digits m.point way p.entry p.place is.entry is.place

pub no_parts : (way : By) (text : List ℕ) (found : List PartName) → found ≡ [] → text ≡ codes "-" → ReadsParts way text found
no_parts way text found none is = record { read = reads }
  where
    reads : (ps : List PartName) → Each (IsPartName way) ps → text ≡ parts_text way ps → found ≡ ps
    reads [] each e = none
    reads (p ∷ ps) each e =
        let own = each.0 in
        absurd (no_hyphen (part_text way p.entry p.place) (flat_map (λ (q : PartName). 44 ∷ name_of_part way q) ps) (part_some way p.entry p.place own.entry)
        (part_lacks 45 hyphen_digits refl way p.entry p.place own.entry own.place) (sym (parts_are way p ps) ∙ sym e ∙ is))

pub parts_begun : (way : By) (text : List ℕ) (done : List PartName) → done ≡ [] → HasReadSome 44 (IsPartName way) (name_of_part way) text done text
parts_begun way text done none = subst (λ (xs : List PartName). HasReadSome 44 (IsPartName way) (name_of_part way) text xs text) (sym none) (begun 44 (IsPartName way) (name_of_part way) text)

pub parts_on : (way : By) (text rest front back : List ℕ) (done now : List PartName) (found : PartName) → HasReadSome 44 (IsPartName way) (name_of_part way) text done rest → IsCut 44 rest front back
    → ReadsPartName way front found → now ≡ done ++ found ∷ [] → HasReadSome 44 (IsPartName way) (name_of_part way) text now back
parts_on way text rest front back done now found h cut r pushed =
    subst (λ (xs : List PartName). HasReadSome 44 (IsPartName way) (name_of_part way) text xs back) (sym pushed)
    (on 44 (IsPartName way) (name_of_part way) text rest front back done found (one_lacks 44 comma way) (λ x own e. r.read x own e) h cut)

pub parts_read : (way : By) (text rest : List ℕ) (done now : List PartName) (found : PartName) → (text ≡ codes "-" → ⊥) → HasReadSome 44 (IsPartName way) (name_of_part way) text done rest → NoCut 44 rest
    → ReadsPartName way rest found → now ≡ done ++ found ∷ [] → ReadsParts way text now
parts_read way text rest done now found other h lack r pushed = record { read = reads }
  where
    reads : (ps : List PartName) → Each (IsPartName way) ps → text ≡ parts_text way ps → now ≡ ps
    reads [] each e = absurd (other (e ∙ parts_none way))
    reads (p ∷ ps) each e = pushed ∙ (all 44 (IsPartName way) (name_of_part way) text rest done found (λ x own is. r.read x own is) h lack).read p ps each (e ∙ parts_are way p ps)

-- fates
pub fates_begun : (text : List ℕ) (done : List (Option Fate)) → done ≡ [] → HasReadSome 43 IsPossible fate_word text done text
fates_begun text done none = subst (λ (xs : List (Option Fate)). HasReadSome 43 IsPossible fate_word text xs text) (sym none) (begun 43 IsPossible fate_word text)

pub fates_on : (text rest front back : List ℕ) (done now : List (Option Fate)) (found : Option Fate) → HasReadSome 43 IsPossible fate_word text done rest → IsCut 43 rest front back → ReadsPossible front found
    → now ≡ done ++ found ∷ [] → HasReadSome 43 IsPossible fate_word text now back
fates_on text rest front back done now found h cut r pushed =
    subst (λ (xs : List (Option Fate)). HasReadSome 43 IsPossible fate_word text xs back) (sym pushed)
    (on 43 IsPossible fate_word text rest front back done found (word_lacks 43 plus) (λ x own e. r.read x own e) h cut)

pub fates_read : (text rest : List ℕ) (done now : List (Option Fate)) (found : Option Fate) → HasReadSome 43 IsPossible fate_word text done rest → NoCut 43 rest → ReadsPossible rest found
    → now ≡ done ++ found ∷ [] → ReadsFates text now
fates_read text rest done now found h lack r pushed = record { read = reads }
  where
    reads : (fs : List (Option Fate)) → 0 < length fs → Each IsPossible fs → text ≡ fates_text fs → now ≡ fs
    reads [] some each e = absurd (omega (arith, some))
    reads (f ∷ fs) some each e = pushed ∙ (all 43 IsPossible fate_word text rest done found (λ x own is. r.read x own is) h lack).read f fs each (e ∙ fates_are f fs)

-- parts with their fates
pub mixed_part_read : (way : By) (word front back : List ℕ) (p : PartName) (fs : List (Option Fate)) → IsCutAt 58 word front back → ReadsPartName way front p → ReadsFates back fs
    → ReadsMixedPart way word (record { part = p; fates = fs })
mixed_part_read way word front back p fs cut part fates = record { read = reads }
  where
    reads : (m : MixedPart) → IsMixedPart way m → word ≡ mixed_text way m → record { part = p; fates = fs } ≡ m
    reads m is e =
        let parts = cut.parts (part_text way m.part.entry m.part.place) (fates_text m.fates) (part_lacks 58 colon_digits refl way m.part.entry m.part.place is.part.entry is.part.place) (e ∙ mixed_is way m) in
        let e1 : p ≡ m.part = part.read m.part is.part parts.0 in
        let e2 : fs ≡ m.fates = fates.read m.fates is.some is.fates parts.1 in
        rw (e1, e2) refl

pub no_mixed : (way : By) (text : List ℕ) (found : List MixedPart) → found ≡ [] → text ≡ [] → ReadsMixed way text found
no_mixed way text found none is = record { read = reads }
  where
    reads : (ms : List MixedPart) → Each (IsMixedPart way) ms → text ≡ mixed_list way ms → found ≡ ms
    reads [] each e = none
    reads (m ∷ ms) each e =
        let own = each.0 in
        let some = part_some way m.part.entry m.part.place own.part.entry in
        let short : length (listed 44 (mixed_text way) m ms) ≡ 0 = ap length (sym e ∙ is) in
        let long = length-append (mixed_text way m) (flat_map (λ (x : MixedPart). 44 ∷ mixed_text way x) ms) in
        let first : length (mixed_text way m) ≡ length (part_text way m.part.entry m.part.place) + length (58 ∷ fates_text m.fates) = ap length (mixed_is way m) ∙ length-append (part_text way m.part.entry m.part.place) (58 ∷ fates_text m.fates) in
        absurd (omega (arith, some, short, long, first))

pub mixed_begun : (way : By) (text : List ℕ) (done : List MixedPart) → done ≡ [] → HasReadSome 44 (IsMixedPart way) (mixed_text way) text done text
mixed_begun way text done none = subst (λ (xs : List MixedPart). HasReadSome 44 (IsMixedPart way) (mixed_text way) text xs text) (sym none) (begun 44 (IsMixedPart way) (mixed_text way) text)

pub mixed_on : (way : By) (text rest front back : List ℕ) (done now : List MixedPart) (found : MixedPart) → HasReadSome 44 (IsMixedPart way) (mixed_text way) text done rest → IsCut 44 rest front back
    → ReadsMixedPart way front found → now ≡ done ++ found ∷ [] → HasReadSome 44 (IsMixedPart way) (mixed_text way) text now back
mixed_on way text rest front back done now found h cut r pushed =
    subst (λ (xs : List MixedPart). HasReadSome 44 (IsMixedPart way) (mixed_text way) text xs back) (sym pushed)
    (on 44 (IsMixedPart way) (mixed_text way) text rest front back done found (mixed_lacks 44 comma refl way) (λ x own e. r.read x own e) h cut)

pub mixed_read : (way : By) (text rest : List ℕ) (done now : List MixedPart) (found : MixedPart) → (text ≡ [] → ⊥) → HasReadSome 44 (IsMixedPart way) (mixed_text way) text done rest → NoCut 44 rest
    → ReadsMixedPart way rest found → now ≡ done ++ found ∷ [] → ReadsMixed way text now
mixed_read way text rest done now found other h lack r pushed = record { read = reads }
  where
    reads : (ms : List MixedPart) → Each (IsMixedPart way) ms → text ≡ mixed_list way ms → now ≡ ms
    reads [] each e = absurd (other e)
    reads (m ∷ ms) each e = pushed ∙ (all 44 (IsMixedPart way) (mixed_text way) text rest done found (λ x own is. r.read x own is) h lack).read m ms each e

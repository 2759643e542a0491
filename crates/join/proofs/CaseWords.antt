-- The words of a line of a case, read.
use Rattle.std.proofs.Common.{ℕ, zero, suc, ◌≡◌, ◌≢◌, ◌<◌, ◌≤◌, ◌^◌, ◌==◌, Bool, true, false, List, [], ◌∷◌, ◌++◌, length, get_or, append_assoc, append-nil, codes, Option, None, Some, refl, sym, subst, ap, ◌∙◌, arith}
use Rattle.std.specs.Fmt.{decimal}
use Rattle.std.proofs.lemmas.Bool.Decides.{nat_tests}
use Rattle.epochs.specs.declared.part.By.{By}
use Rattle.epochs.specs.declared.part.By.TheVariants as by
use Rattle.choices.specs.declared.fate.Fate.{Fate}
use Rattle.choices.specs.declared.fate.Fate.TheVariants as fate
use Rattle.choices.specs.declared.name.Name.{Name}
use Rattle.choices.specs.CrashModel.{IsFate}
use Rattle.report.specs.ChoiceText.{fate_text, part_text, name_text, IsPlace, IsName}
use Rattle.report.specs.MarkReading.{lacks, IsCutAt, ReadsField}
use Rattle.report.proofs.Back.{lacks_both}
use Rattle.losses.specs.declared.flushes.window.Window.{Window}
use Rattle.case_text.specs.Text.{fate_word, place_text, number_text}
use Rattle.join.specs.declared.case_parts.names.PartName.{PartName}
use Rattle.join.specs.declared.case_parts.front.CaseFront.{CaseFront}
use Rattle.join.specs.Heads.{join_words, IsWord, AreWords, IsOtherFirst, ReadsWord}
use Rattle.join.specs.CaseTexts.{front_text}
use Rattle.join.specs.CaseReading.{IsPartName, IsPossible, ReadsPossible, ReadsPartName, ReadsOneName, IsSmallFront, ReadsFront, window_word, IsSmallWindow, ReadsWindow, named_words, IsNoneOrWord, ReadsNamed, KnownSaid, known_list, AreKnownWords, ReadsKnown}
use Rattle.join.proofs.Texts.{has_it}
use Rattle.join.proofs.Spans.{NoDigit, SaysNumber, number_lacks, blank_lacks, no_point}
use Rattle.join.proofs.WordsRead.{less, other_word}
use Rattle.join.proofs.FlushesRead.{SaysSmall}

-- what may become of a part
pub whole_read : (word : List ℕ) → word ≡ codes "whole" → ReadsPossible word None
whole_read word is = record { read = reads }
  where
    first : (f : Fate) → get_or (fate_text f) 0 0 ≢ 119
    first fate.Drop e = omega (arith, e)
    first (fate.Head t) e = omega (arith, e)
    first (fate.Tail t) e = omega (arith, e)

    reads : (f : Option Fate) → IsPossible f → word ≡ fate_word f → None ≡ f
    reads None own e = refl
    reads (Some f) own e = absurd (first f (ap (λ (bs : List ℕ). get_or bs 0 0) (sym e ∙ is)))

pub possible_read : (word : List ℕ) (found : Option Fate) → (word ≡ codes "whole" → ⊥) → ((f : Fate) → IsFate true f → word ≡ fate_text f → found ≡ Some f) → ReadsPossible word found
possible_read word found other says = record { read = reads }
  where
    reads : (f : Option Fate) → IsPossible f → word ≡ fate_word f → found ≡ f
    reads None own e = absurd (other e)
    reads (Some f) own e = says f own e

-- a part
sector_is : (entry place : ℕ) → part_text by.Sector entry place ≡ decimal entry ++ 46 ∷ decimal place
unfolding part_text
sector_is entry place = append_assoc (decimal entry) (codes ".") (decimal place)

write_is : (entry place : ℕ) → part_text by.Write entry place ≡ decimal entry
unfolding part_text
write_is entry place = refl

pub sector_read : (word front back : List ℕ) (a b : ℕ) → IsCutAt 46 word front back → SaysSmall front a → SaysSmall back b → ReadsPartName by.Sector word (record { entry = a; place = b })
sector_read word front back a b cut says1 says2 = record { read = reads }
  where
    reads : (p : PartName) → IsPartName by.Sector p → word ≡ part_text by.Sector p.entry p.place → record { entry = a; place = b } ≡ p
    reads p is e =
        let place : p.place < 2 ^ 32 = is.place in
        let parts = cut.parts (decimal p.entry) (decimal p.place) (number_lacks 46 p.entry no_point (less p.entry is.entry)) (e ∙ sector_is p.entry p.place) in
        let e1 : a ≡ p.entry = says1 p.entry is.entry parts.0 in
        let e2 : b ≡ p.place = says2 p.place place parts.1 in
        rw (e1, e2) refl

pub write_read : (word : List ℕ) (a : ℕ) → SaysSmall word a → ReadsPartName by.Write word (record { entry = a; place = 0 })
write_read word a says = record { read = reads }
  where
    reads : (p : PartName) → IsPartName by.Write p → word ≡ part_text by.Write p.entry p.place → record { entry = a; place = 0 } ≡ p
    reads p is e =
        let place : p.place ≡ 0 = is.place in
        let e1 : a ≡ p.entry = says p.entry is.entry (e ∙ write_is p.entry p.place) in
        rw (e1, place) refl

-- a part's text has digits and points alone
pub part_lacks : (c : ℕ) → NoDigit c → (46 == c) ≡ false → (way : By) (entry place : ℕ) → entry < 2 ^ 32 → IsPlace way place → lacks c (part_text way entry place) ≡ true
part_lacks c other point by.Sector entry place small is =
    rw (sector_is entry place) (lacks_both c (decimal entry) (46 ∷ decimal place) (number_lacks c entry other (less entry small)) (rw point (number_lacks c place other (less place is))))
part_lacks c other point by.Write entry place small is = rw (write_is entry place) (number_lacks c entry other (less entry small))

no_colon : NoDigit 58
no_colon k small = grind (arith, nat_tests)

name_is : (way : By) (n : Name) → name_text way n ≡ part_text way n.entry n.place ++ 58 ∷ fate_text n.fate
unfolding name_text
name_is way n = append_assoc (part_text way n.entry n.place) (codes ":") (fate_text n.fate)

pub name_read : (way : By) (word front back : List ℕ) (p : PartName) (f : Fate) → IsCutAt 58 word front back → ReadsPartName way front p
    → ((g : Fate) → IsFate true g → back ≡ fate_text g → f ≡ g) → ReadsOneName way word (record { entry = p.entry; place = p.place; fate = f })
name_read way word front back p f cut part says = record { read = reads }
  where
    reads : (n : Name) → IsName way n → word ≡ name_text way n → record { entry = p.entry; place = p.place; fate = f } ≡ n
    reads n is e =
        let parts = cut.parts (part_text way n.entry n.place) (fate_text n.fate) (part_lacks 58 no_colon refl way n.entry n.place is.entry is.place) (e ∙ name_is way n) in
        let same : p ≡ record { entry = n.entry; place = n.place } = part.read (record { entry = n.entry; place = n.place }) (record { entry = is.entry; place = is.place }) parts.0 in
        let e1 : p.entry ≡ n.entry = ap (λ (q : PartName). q.entry) same in
        let e2 : p.place ≡ n.place = ap (λ (q : PartName). q.place) same in
        let e3 : f ≡ n.fate = says n.fate is.fate parts.1 in
        rw (e1, e2, e3) refl

-- the words with which a line begins
place_words : (a b c : ℕ) (more : List ℕ)
    → place_text a b c ++ more ≡ codes "cut" ++ 32 ∷ (decimal a ++ 32 ∷ (codes "epoch" ++ 32 ∷ (decimal b ++ 32 ∷ (codes "marks" ++ 32 ∷ (decimal c ++ more)))))
unfolding place_text
place_words a b c more = simp append_assoc

number_words : (p n : ℕ) (more : List ℕ) → number_text p n ++ more ≡ 32 ∷ (codes "program" ++ 32 ∷ (decimal p ++ 32 ∷ (codes "case" ++ 32 ∷ (decimal n ++ 32 ∷ more))))
unfolding number_text
number_words p n more = simp append_assoc

front_words : (f : CaseFront) (more : List ℕ)
    → front_text f ++ more
    ≡ codes "cut" ++ 32 ∷ (decimal f.cut ++ 32 ∷ (codes "epoch" ++ 32 ∷ (decimal f.epoch ++ 32 ∷ (codes "marks" ++ 32 ∷ (decimal f.marks ++ 32 ∷ (codes "program" ++ 32 ∷ (decimal f.program ++ 32 ∷ (codes "case" ++ 32 ∷ (decimal f.number ++ 32 ∷ more)))))))))
unfolding front_text
front_words f more =
    append_assoc (place_text f.cut f.epoch f.marks) (number_text f.program f.number) more
    ∙ ap (λ (bs : List ℕ). place_text f.cut f.epoch f.marks ++ bs) (number_words f.program f.number more)
    ∙ place_words f.cut f.epoch f.marks (32 ∷ (codes "program" ++ 32 ∷ (decimal f.program ++ 32 ∷ (codes "case" ++ 32 ∷ (decimal f.number ++ 32 ∷ more)))))

pub front_read : (line w1 r1 w2 r2 w3 r3 w4 r4 w5 rest : List ℕ) (a b c d e : ℕ) → ReadsField line w1 r1 → ReadsField r1 w2 r2 → ReadsField r2 w3 r3 → ReadsField r3 w4 r4 → ReadsField r4 w5 rest
    → SaysNumber w1 a → SaysNumber w2 b → SaysNumber w3 c → SaysNumber w4 d → SaysNumber w5 e → ReadsFront line (record { cut = a; epoch = b; marks = c; program = d; number = e }) rest
front_read line w1 r1 w2 r2 w3 r3 w4 r4 w5 rest a b c d e f1 f2 f3 f4 f5 n1 n2 n3 n4 n5 = record { read = reads }
  where
    reads : (f : CaseFront) (more : List ℕ) → IsSmallFront f → line ≡ front_text f ++ more → (record { cut = a; epoch = b; marks = c; program = d; number = e } ≡ f) × (rest ≡ more)
    reads f more small is =
        let p1 = f1.read (codes "cut") (decimal f.cut) _ refl (blank_lacks f.cut small.cut) (is ∙ front_words f more) in
        let p2 = f2.read (codes "epoch") (decimal f.epoch) _ refl (blank_lacks f.epoch small.epoch) p1.1 in
        let p3 = f3.read (codes "marks") (decimal f.marks) _ refl (blank_lacks f.marks small.marks) p2.1 in
        let p4 = f4.read (codes "program") (decimal f.program) _ refl (blank_lacks f.program small.program) p3.1 in
        let p5 = f5.read (codes "case") (decimal f.number) more refl (blank_lacks f.number small.number) p4.1 in
        let e1 = n1 f.cut small.cut p1.0 in
        let e2 = n2 f.epoch small.epoch p2.0 in
        let e3 = n3 f.marks small.marks p3.0 in
        let e4 = n4 f.program small.program p4.0 in
        let e5 = n5 f.number small.number p5.0 in
        (rw (e1, e2, e3, e4, e5) refl, p5.1)

-- a word that may be there after a name
pub named_lacking : (name line word value : List ℕ) → IsWord name → ReadsWord line word value → word ≢ name → ReadsNamed name line [] line
named_lacking name line word value own r other = record { read = reads }
  where
    reads : (said : List ℕ) (ws : List (List ℕ)) → IsNoneOrWord said → AreWords ws → IsOtherFirst name ws → line ≡ join_words (named_words name said ++ ws) → ([] ≡ said) × (line ≡ join_words ws)
    reads [] ws is each first e = (refl, e)
    reads (b ∷ bs) ws is each first e = absurd (other (r.read name ((b ∷ bs) ∷ ws) own e).0)

pub named_found : (name line word value found rest : List ℕ) → IsWord name → ReadsWord line word value → word ≡ name → ReadsWord value found rest → ReadsNamed name line found rest
named_found name line word value found rest own r same s = record { read = reads }
  where
    reads : (said : List ℕ) (ws : List (List ℕ)) → IsNoneOrWord said → AreWords ws → IsOtherFirst name ws → line ≡ join_words (named_words name said ++ ws) → (found ≡ said) × (rest ≡ join_words ws)
    reads [] ws is each first e = absurd (other_word name line word value ws own.0 r same each first e)
    reads (b ∷ bs) ws is each first e =
        let one = r.read name ((b ∷ bs) ∷ ws) own e in
        s.read (b ∷ bs) ws is one.1

-- the words after ` choice `
free_other : codes "free" ≢ codes "among"
free_other k = let bad : 102 ≡ 97 = ap (λ (bs : List ℕ). get_or bs 0 0) k in absurd (omega (arith, bad))

pub known_read : (line w1 r1 w2 r2 w3 r3 m r4 w5 r5 w6 r6 w7 r7 w8 rest : List ℕ) → ReadsWord line w1 r1 → ReadsWord r1 w2 r2 → ReadsWord r2 w3 r3 → ReadsNamed (codes "among") r3 m r4
    → ReadsWord r4 w5 r5 → ReadsWord r5 w6 r6 → ReadsWord r6 w7 r7 → ReadsWord r7 w8 rest → ReadsKnown line (record { lost = w1; kept = w3; mixed = m; free = w6; window = w8 })
known_read line w1 r1 w2 r2 w3 r3 m r4 w5 r5 w6 r6 w7 r7 w8 rest c1 c2 c3 c4 c5 c6 c7 c8 = record { read = reads }
  where
    reads : (k : KnownSaid) → AreKnownWords k → line ≡ join_words (known_list k) → record { lost = w1; kept = w3; mixed = m; free = w6; window = w8 } ≡ k
    reads k are e =
        let last : List (List ℕ) = codes "free" ∷ k.free ∷ codes "flush" ∷ k.window ∷ [] in
        let p1 = c1.read k.lost (codes "kept" ∷ k.kept ∷ (named_words (codes "among") k.mixed ++ last)) are.lost e in
        let p2 = c2.read (codes "kept") (k.kept ∷ (named_words (codes "among") k.mixed ++ last)) (omega arith, refl) p1.1 in
        let p3 = c3.read k.kept (named_words (codes "among") k.mixed ++ last) are.kept p2.1 in
        let p4 = c4.read k.mixed last are.mixed ((omega arith, refl), (are.free, ((omega arith, refl), (are.window, tt)))) free_other p3.1 in
        let p5 = c5.read (codes "free") (k.free ∷ codes "flush" ∷ k.window ∷ []) (omega arith, refl) p4.1 in
        let p6 = c6.read k.free (codes "flush" ∷ k.window ∷ []) are.free p5.1 in
        let p7 = c7.read (codes "flush") (k.window ∷ []) (omega arith, refl) p6.1 in
        let p8 = c8.read k.window [] are.window p7.1 in
        let e1 : w1 ≡ k.lost = p1.0 in
        let e2 : w3 ≡ k.kept = p3.0 in
        let e3 : m ≡ k.mixed = p4.0 in
        let e4 : w6 ≡ k.free = p6.0 in
        let e5 : w8 ≡ k.window = p8.0 in
        rw (e1, e2, e3, e4, e5) refl

-- a window
pub no_window_read : (word : List ℕ) → word ≡ codes "none" → ReadsWindow word None
no_window_read word is = record { read = reads }
  where
    reads : (w : Option Window) → IsSmallWindow w → word ≡ window_word w → None ≡ w
    reads None small e = refl
    reads (Some w) small e =
        absurd (has_it 46 (decimal w.start) (46 ∷ decimal w.end) (subst (λ (bs : List ℕ). lacks 46 bs ≡ true) (sym is ∙ e ∙ append_assoc (decimal w.start) (codes "..") (decimal w.end)) refl))

pub window_read : (word w1 r1 w2 r2 : List ℕ) (a b : ℕ) → (word ≡ codes "none" → ⊥) → IsCutAt 46 word w1 r1 → IsCutAt 46 r1 w2 r2 → SaysSmall w1 a → SaysSmall r2 b → ReadsWindow word (Some (record { start = a; end = b }))
window_read word w1 r1 w2 r2 a b other c1 c2 n1 n2 = record { read = reads }
  where
    reads : (w : Option Window) → IsSmallWindow w → word ≡ window_word w → Some (record { start = a; end = b }) ≡ w
    reads None small e = absurd (other e)
    reads (Some w) small e =
        let p1 = c1.parts (decimal w.start) (46 ∷ decimal w.end) (number_lacks 46 w.start no_point (less w.start small.0)) (e ∙ append_assoc (decimal w.start) (codes "..") (decimal w.end)) in
        let p2 = c2.parts [] (decimal w.end) refl p1.1 in
        let e1 : a ≡ w.start = n1 w.start small.0 p1.0 in
        let e2 : b ≡ w.end = n2 w.end small.1 p2.1 in
        rw (e1, e2) refl

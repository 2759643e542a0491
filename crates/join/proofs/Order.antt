-- Lines of parts in a row, one after the other.
use Rattle.std.proofs.Common.{ℕ, ◌≡◌, ◌+◌, ◌<◌, ◌≤◌, ◌==◌, nat_lt, nat_le, true, inl, inr, List, [], ◌∷◌, ◌++◌, filter, append-nil, Option, Some, None, refl, ◌∙◌, ap, arith}
use Rattle.std.proofs.lemmas.Bool.Decides.{nat_tests, eqb_tells}
use Rattle.std.proofs.lemmas.List.Elements.{filter-append}
use Rattle.report.specs.declared.lines.marks.LineMark.{LineMark}
use Rattle.report.specs.Line.{FailingLine, first_lines}
use Rattle.report.specs.Marks.{mark_of, marks_of}
use Rattle.report.specs.Images.{failing_images, changes_after}
use Rattle.report.proofs.Order.{changes_are_images}
use Rattle.join.specs.Order.{follows, in_order}
use Rattle.join.proofs.Counts.{next_is, rising, all_of_first}

-- a mark before an image
abbrev Before : ℕ → Option LineMark → Type 0
Before image None = Unit {0}
Before image (Some last) = last.image < image

-- each line is of an image from `from` on
abbrev pub AreFrom : ℕ → List FailingLine → Type 0
AreFrom from [] = Unit {0}
AreFrom from (l ∷ ls) = (from ≤ l.image) × AreFrom from ls

pub are_from : (from to : ℕ) (last : Option LineMark) (ls : List FailingLine) → in_order from to last (marks_of ls) ≡ true → AreFrom from ls
are_from from to last [] e = tt
are_from from to last (l ∷ ls) e =
    let next = next_is from to last (mark_of l) (marks_of ls) e in
    (next.low, are_from from to (Some (mark_of l)) ls next.rest)

-- each line is of an image below `to`
abbrev pub AreBelow : ℕ → List FailingLine → Type 0
AreBelow to [] = Unit {0}
AreBelow to (l ∷ ls) = (l.image < to) × AreBelow to ls

pub are_below : (from to : ℕ) (last : Option LineMark) (ls : List FailingLine) → in_order from to last (marks_of ls) ≡ true → AreBelow to ls
are_below from to last [] e = tt
are_below from to last (l ∷ ls) e =
    let next = next_is from to last (mark_of l) (marks_of ls) e in
    (next.high, are_below from to (Some (mark_of l)) ls next.rest)

later : (a b : ℕ) (ls : List FailingLine) → a ≤ b → AreFrom b ls → AreFrom a ls
later a b [] le all = tt
later a b (l ∷ ls) le all = (let own = all.0 in omega (arith, le, own), later a b ls le all.1)

low_is : (a b : ℕ) → a ≤ b → nat_le a b ≡ true
low_is a b le = grind (arith, nat_tests, le)

high_is : (a b : ℕ) → a < b → nat_lt a b ≡ true
high_is a b lt = grind (arith, nat_tests, lt)

beyond_is : (image : ℕ) (last : Option LineMark) (m : LineMark) → Before image last → image ≤ m.image → follows last m ≡ true
beyond_is image None m before le = refl
beyond_is image (Some last) m before le = let less : nat_lt last.image m.image ≡ true = high_is last.image m.image (omega (arith, before, le)) in rw less refl

pub next_back : (from to : ℕ) (last : Option LineMark) (m : LineMark) (ms : List LineMark) → from ≤ m.image → m.image < to → follows last m ≡ true → in_order from to (Some m) ms ≡ true → in_order from to last (m ∷ ms) ≡ true
next_back from to last m ms low high beyond rest =
    let a = low_is from m.image low in
    let b = high_is m.image to high in
    rw (a, b, beyond, rest) refl

-- lines of images up to `mid`, and then lines from there on
pub in_order-append : (from mid to : ℕ) (last : Option LineMark) (ls more : List FailingLine) → from ≤ mid → mid ≤ to → Before mid last
    → in_order from mid last (marks_of ls) ≡ true → in_order mid to None (marks_of more) ≡ true → in_order from to last (marks_of (ls ++ more)) ≡ true
in_order-append from mid to last [] more le up at e f = from_there last more at f
  where
    from_there : (last : Option LineMark) (more : List FailingLine) → Before mid last → in_order mid to None (marks_of more) ≡ true → in_order from to last (marks_of more) ≡ true
    from_there last [] at f = refl
    from_there last (k ∷ ks) at f =
        let next = next_is mid to None (mark_of k) (marks_of ks) f in
        let low = next.low in
        next_back from to last (mark_of k) (marks_of ks) (omega (arith, le, low)) next.high (beyond_is mid last (mark_of k) at low) (rest_there (mark_of k) ks next.rest)
      where
        rest_there : (m : LineMark) (ks : List FailingLine) → in_order mid to (Some m) (marks_of ks) ≡ true → in_order from to (Some m) (marks_of ks) ≡ true
        rest_there m [] g = refl
        rest_there m (j ∷ js) g =
            let next = next_is mid to (Some m) (mark_of j) (marks_of js) g in
            let low = next.low in
            next_back from to (Some m) (mark_of j) (marks_of js) (omega (arith, le, low)) next.high next.beyond (rest_there (mark_of j) js next.rest)
in_order-append from mid to last (l ∷ ls) more le up at e f =
    let next = next_is from mid last (mark_of l) (marks_of ls) e in
    let high = next.high in
    next_back from to last (mark_of l) (marks_of (ls ++ more)) next.low (omega (arith, high, up)) next.beyond
    (in_order-append from mid to (Some (mark_of l)) ls more le up high next.rest f)

-- how often the image changes, in two lists of which the second has later images
unchanged : (v : ℕ) (ls : List FailingLine) → AreFrom (v + 1) ls → changes_after (Some v) ls ≡ changes_after None ls
unchanged v [] all = refl
unchanged v (l ∷ ls) all = elim (eqb_tells v l.image) [
  | inl same ↦ absurd (let own = all.0 in let is = same.1 in omega (arith, own, is))
  | inr other ↦ rw other.0 refl
]

-- the image of the last line comes before an image
abbrev ImageBefore : ℕ → Option ℕ → Type 0
ImageBefore image None = Unit {0}
ImageBefore image (Some last) = last < image

changes-append : (mid : ℕ) (last : Option ℕ) (ls more : List FailingLine) → ImageBefore mid last → AreBelow mid ls → AreFrom mid more
    → changes_after last (ls ++ more) ≡ changes_after last ls + changes_after None more
changes-append mid None [] more at below above = omega arith
changes-append mid (Some v) [] more at below above = let same = unchanged v more (later (v + 1) mid more (omega (arith, at)) above) in omega (arith, same)
changes-append mid last (l ∷ ls) more at below above =
    let rest = changes-append mid (Some l.image) ls more below.0 below.1 above in omega (arith, rest)

-- so the failing images of both are those of each
pub failing-append : (from mid to : ℕ) (ls more : List FailingLine) → from ≤ mid → mid ≤ to → in_order from mid None (marks_of ls) ≡ true → in_order mid to None (marks_of more) ≡ true
    → failing_images (ls ++ more) ≡ failing_images ls + failing_images more
failing-append from mid to ls more le up e f =
    let both = in_order-append from mid to None ls more le up tt e f in
    let all = changes_are_images (ls ++ more) (rising from to None (ls ++ more) both) in
    let one = changes_are_images ls (rising from mid None ls e) in
    let two = changes_are_images more (rising mid to None more f) in
    let sum = changes-append mid None ls more tt (are_below from mid None ls e) (are_from mid to None more f) in
    omega (arith, all, one, two, sum)

-- the lines of the first image are among the first lines, where there are some
pub none_of : (v mid : ℕ) (ls : List FailingLine) → v < mid → AreFrom mid ls → filter (λ (m : FailingLine). m.image == v) ls ≡ []
none_of v mid [] less all = refl
none_of v mid (l ∷ ls) less all = elim (eqb_tells l.image v) [
  | inl same ↦ absurd (let own = all.0 in let is = same.1 in omega (arith, less, own, is))
  | inr other ↦ rw other.0 (none_of v mid ls less all.1)
]

pub first-append : (from mid to : ℕ) (l : FailingLine) (ls more : List FailingLine) → in_order from mid None (marks_of (l ∷ ls)) ≡ true → in_order mid to None (marks_of more) ≡ true
    → failing_images (l ∷ ls) ≤ 1 → first_lines ((l ∷ ls) ++ more) ≡ l ∷ ls
first-append from mid to l ls more e f one =
    let next = next_is from mid None (mark_of l) (marks_of ls) e in
    let own : first_lines (l ∷ ls) ≡ l ∷ ls = all_of_first (l ∷ ls) (rising from mid None (l ∷ ls) e) one in
    filter-append (λ (m : FailingLine). m.image == l.image) (l ∷ ls) more
    ∙ ap (λ (xs : List FailingLine). filter (λ (m : FailingLine). m.image == l.image) (l ∷ ls) ++ xs) (none_of l.image mid more next.high (are_from mid to None more f))
    ∙ append-nil (first_lines (l ∷ ls)) ∙ own

-- Of which images two lists of lines are together.
use Rattle.std.proofs.Common.{ℕ, ◌≡◌, ◌+◌, ◌-◌, ◌<◌, ◌≤◌, ◌^◌, Bool, true, false, ◌==◌, if◌then◌else◌, inl, inr, List, [], ◌∷◌, ◌++◌, length, Option, None, Some, refl, sym, ◌∙◌, arith, length-append}
use Rattle.std.proofs.lemmas.Bool.Decides.{eqb_tells}
use Rattle.report.specs.Line.{FailingLine}
use Rattle.report.specs.Images.{first_image, last_after, first_of, is_same, changes_after}
use Rattle.report.specs.Kept.{AreOf, if_any}

pub first_image-append : (ls more : List FailingLine) → first_image (ls ++ more) ≡ first_of (first_image ls) (first_image more)
first_image-append [] more = refl
first_image-append (l ∷ ls) more = refl

last_after-append : (last : Option ℕ) (ls more : List FailingLine) → last_after last (ls ++ more) ≡ last_after (last_after last ls) more
last_after-append last [] more = refl
last_after-append last (l ∷ ls) more = last_after-append (Some l.image) ls more

some_last : (last : Option ℕ) (v : ℕ) (ls : List FailingLine) → last_after (Some v) ls ≡ first_of (last_after (Some v) ls) last
some_last last v [] = refl
some_last last v (l ∷ ls) = some_last last l.image ls

last_of_both : (last : Option ℕ) (more : List FailingLine) → last_after last more ≡ first_of (last_after None more) last
last_of_both last [] = refl
last_of_both last (l ∷ ls) = some_last last l.image ls

changes-append : (last : Option ℕ) (ls more : List FailingLine)
    → changes_after last (ls ++ more) ≡ changes_after last ls + changes_after (last_after last ls) more
changes-append last [] more = omega arith
changes-append last (l ∷ ls) more = rw (changes-append (Some l.image) ls more) (omega arith)

-- after a line of its first image a list has one change less
changes_after_none : (last : Option ℕ) (ls : List FailingLine)
    → changes_after last ls + (if is_same last (first_image ls) then 1 else 0) ≡ changes_after None ls
changes_after_none None [] = refl
changes_after_none (Some v) [] = refl
changes_after_none None (l ∷ ls) = omega arith
changes_after_none (Some v) (l ∷ ls) = elim (eqb_tells v l.image) [
  | inl e ↦ rw e.0 (omega arith)
  | inr e ↦ rw e.0 (omega arith)
]

pub few_changes : (last : Option ℕ) (ls : List FailingLine) → changes_after last ls ≤ length ls
few_changes last [] = omega arith
few_changes None (l ∷ ls) = omega (arith, few_changes (Some l.image) ls)
few_changes (Some v) (l ∷ ls) = elim (eqb_tells v l.image) [
  | inl e ↦ rw e.0 (omega (arith, few_changes (Some l.image) ls))
  | inr e ↦ rw e.0 (omega (arith, few_changes (Some l.image) ls))
]

count_of_both : (same : Bool) (a b c : ℕ) → b + (if same then 1 else 0) ≡ c → (if same then a + c - 1 else a + c) ≡ a + b
count_of_both true a b c e = omega (arith, e)
count_of_both false a b c e = omega (arith, e)

of_both : (ls more : List FailingLine) (first last others end : Option ℕ) (a c : ℕ) → AreOf ls first last a → AreOf more others end c
    → AreOf (ls ++ more) (first_of first others) (first_of end last) (if is_same last others then a + c - 1 else a + c)
of_both ls more first last others end a c h k = record {
  first_is = rw (h.first_is, k.first_is) (sym (first_image-append ls more));
  last_is = rw (h.last_is, k.last_is) (sym (last_after-append None ls more ∙ last_of_both (last_after None ls) more));
  count_is =
      let one = changes_after_none (last_after None ls) more in
      rw (h.last_is, h.count_is, k.first_is, k.count_is)
      (count_of_both (is_same (last_after None ls) (first_image more)) (changes_after None ls) (changes_after (last_after None ls) more) (changes_after None more) one
      ∙ sym (changes-append None ls more));
}

any : (count image : ℕ) → 0 < count → if_any count image ≡ Some image
any count image some = elim (eqb_tells count 0) [
  | inl none ↦ absurd (omega (arith, some, none.1))
  | inr e ↦ rw e.0 refl
]

still_some : (same : Bool) (a c : ℕ) → 0 < a → 0 < c → 0 < (if same then a + c - 1 else a + c)
still_some true a c h k = omega (arith, h, k)
still_some false a c h k = omega (arith, h, k)

-- two lists, neither of which is empty
pub of_some : (ls more : List FailingLine) (first last others end a c n : ℕ) → 0 < a → 0 < c
    → AreOf ls (if_any a first) (if_any a last) a → AreOf more (if_any c others) (if_any c end) c
    → n ≡ (if last == others then a + c - 1 else a + c)
    → AreOf (ls ++ more) (if_any n first) (if_any n end) n
of_some ls more first last others end a c n p q h k e =
    let own : AreOf ls (Some first) (Some last) a = rw (any a first p, any a last p) at h in
    let own_more : AreOf more (Some others) (Some end) c = rw (any c others q, any c end q) at k in
    let some : 0 < n = rw e (still_some (last == others) a c p q) in
    let all : AreOf (ls ++ more) (Some first) (Some end) (if last == others then a + c - 1 else a + c) =
    of_both ls more (Some first) (Some last) (Some others) (Some end) a c own own_more in
    rw (any n first some, any n end some, e) all

pub few_of_both : (ls more : List FailingLine) (first last others end : Option ℕ) (a c n : ℕ) → AreOf ls first last a → AreOf more others end c
    → length (ls ++ more) ≡ n → n < 2 ^ 64 → a + c < 2 ^ 64
few_of_both ls more first last others end a c n h k e few =
    omega (arith, few_changes None ls, few_changes None more, h.count_is, k.count_is, length-append ls more, e, few)

-- The tests of `Jobs::new` tell whether blocks are those of jobs.
use Rattle.std.proofs.Common.{ℕ, zero, suc, ◌≡◌, ◌+◌, ◌<◌, ◌≤◌, ◌==◌, nat_lt, Bool, true, false, not, ◌||◌, ◌&&◌, if◌then◌else◌, List, [], ◌∷◌, ◌++◌, length, map, drop, get_or, slice_get, Option, None, Some, is_some, refl, sym, ◌∙◌, ap, add-one, arith}
use Rattle.std.specs.List.{list_all}
use Rattle.std.specs.Option.{option_and_then}
use Rattle.std.proofs.Math.Seq.{drop-cons}
use Rattle.std.proofs.lemmas.List.Folds.{list_all-append}
use Rattle.std.proofs.lemmas.Bool.Decides.{nat_tests}
use Rattle.explore_core.specs.declared.job.Job.{Job}
use Rattle.explore_core.specs.Jobs.{AreJobs, Rise, Agree, all_jobs}
use Rattle.explore_core.specs.Agreement.{agrees, last_image}

-- images never fall

image_append : (low : ℕ) (xs ys : List Job) → last_image low (xs ++ ys) ≡ option_and_then (λ image. last_image image ys) (last_image low xs)
image_append low [] ys = refl
image_append low (x ∷ xs) ys = step (image_append x.image xs ys) (nat_lt x.image low)
  where
    step : last_image x.image (xs ++ ys) ≡ option_and_then (λ image. last_image image ys) (last_image x.image xs)
        → (b : Bool) → (if b then None else last_image x.image (xs ++ ys)) ≡ option_and_then (λ image. last_image image ys) (if b then None else last_image x.image xs)
    step rest true = refl
    step rest false = rest

-- what is left of blocks from one block on
pub image_next : {X : Type 0} (f : X → List Job) (low : ℕ) (xs : List X) (k : ℕ) (x : X) → k < length xs → x ≡ get_or xs k x
    → last_image low (all_jobs (map f (drop k xs))) ≡ option_and_then (λ image. last_image image (all_jobs (map f (drop (k + 1) xs)))) (last_image low (f x))
image_next f low xs k x lt at =
    let split : drop k xs ≡ get_or xs k x ∷ drop (suc k) xs = drop-cons xs k x lt in
    rw (split, ← at, add-one k) (image_append low (f x) (all_jobs (map f (drop (suc k) xs))))

pub none_left : {X : Type 0} (f : X → List Job) (low : ℕ) (xs : List X) (k : ℕ) (x : X) (whole : Option ℕ) → k < length xs → x ≡ get_or xs k x
    → last_image low (all_jobs (map f (drop k xs))) ≡ whole → None ≡ last_image low (f x) → false ≡ is_some whole
none_left f low xs k x whole lt at left none =
    let next = image_next f low xs k x lt at in
    rw (← left, next, ← none) refl

pub one_less : {X : Type 0} (f : X → List Job) (low image : ℕ) (xs : List X) (k : ℕ) (x : X) (whole : Option ℕ) → k < length xs → x ≡ get_or xs k x
    → last_image low (all_jobs (map f (drop k xs))) ≡ whole → Some image ≡ last_image low (f x) → last_image image (all_jobs (map f (drop (k + 1) xs))) ≡ whole
one_less f low image xs k x whole lt at left some =
    let next = image_next f low xs k x lt at in
    let more : last_image low (all_jobs (map f (drop k xs))) ≡ last_image image (all_jobs (map f (drop (k + 1) xs))) = rw (next, ← some) refl in
    sym more ∙ left

rises : (low : ℕ) (js : List Job) → is_some (last_image low js) ≡ true → Rise low js
rises low [] e = tt
rises low (j ∷ js) e = step (rises j.image js) (nat_lt j.image low) refl e
  where
    step : (is_some (last_image j.image js) ≡ true → Rise j.image js) → (b : Bool) → nat_lt j.image low ≡ b → is_some (if b then None else last_image j.image js) ≡ true → (low ≤ j.image) × Rise j.image js
    step rest true k e = absurd (let bad : false ≡ true = e in cc)
    step rest false k e = (grind (arith, nat_tests, k), rest e)

falls : (low : ℕ) (js : List Job) → is_some (last_image low js) ≡ false → Rise low js → ⊥
falls low [] e h = let bad : true ≡ false = e in absurd (cc)
falls low (j ∷ js) e h = step (λ f. falls j.image js f h.1) h.0 (nat_lt j.image low) refl e
  where
    step : (is_some (last_image j.image js) ≡ false → ⊥) → low ≤ j.image → (b : Bool) → nat_lt j.image low ≡ b → is_some (if b then None else last_image j.image js) ≡ false → ⊥
    step rest le true k e = grind (arith, nat_tests, k, le)
    step rest le false k e = rest e

-- equal keys have equal outcomes

all_nested : {X : Type 0} (p : Job → Bool) (f : X → List Job) (xs : List X) → list_all (λ x. list_all p (f x)) xs ≡ list_all p (all_jobs (map f xs))
all_nested p f [] = refl
all_nested p f (x ∷ xs) = ap (λ b. list_all p (f x) && b) (all_nested p f xs) ∙ sym (list_all-append p (f x) (all_jobs (map f xs)))

all_at : (p : Job → Bool) (xs : List Job) (i : ℕ) (x : Job) → list_all p xs ≡ true → slice_get xs i ≡ Some x → p x ≡ true
all_at p [] i x h at = absurd (let bad : None ≡ Some x = at in cc)
all_at p (y ∷ ys) zero x h at = let same : y ≡ x = (let s : Some y ≡ Some x = at in cc) in rw (← same) (first (p y) (list_all p ys) h)
  where
    first : (a b : Bool) → (a && b) ≡ true → a ≡ true
    first true b h = refl
    first false b h = h
all_at p (y ∷ ys) (suc i) x h at = all_at p ys i x (rest (p y) (list_all p ys) h) at
  where
    rest : (a b : Bool) → (a && b) ≡ true → b ≡ true
    rest true b h = h
    rest false b h = absurd (let bad : false ≡ true = h in cc)

not_all : (p : Job → Bool) (xs : List Job) → list_all p xs ≡ false → (i : ℕ) × (x : Job) × (slice_get xs i ≡ Some x) × (p x ≡ false)
not_all p [] h = absurd (let bad : true ≡ false = h in cc)
not_all p (y ∷ ys) h = step (not_all p ys) (p y) refl h
  where
    step : (list_all p ys ≡ false → (i : ℕ) × (x : Job) × (slice_get ys i ≡ Some x) × (p x ≡ false)) → (b : Bool) → p y ≡ b → (b && list_all p ys) ≡ false → (i : ℕ) × (x : Job) × (slice_get (y ∷ ys) i ≡ Some x) × (p x ≡ false)
    step rest false k h = (zero, y, refl, k)
    step rest true k h = let found = rest h in (suc found.0, found.1, found.2, found.3)

-- whether a job has another key than that one, or its outcome
abbrev fits : Job → Job → Bool
fits job other = not (other.key == job.key) || (other.outcome == job.outcome)

all_agree : {X : Type 0} (f : X → List Job) (xs : List X)
    → list_all (λ own. list_all (λ job. list_all (λ b. agrees (f b) job) xs) (f own)) xs ≡ list_all (λ job. list_all (λ b. agrees (f b) job) xs) (all_jobs (map f xs))
all_agree f xs = all_nested (λ job. list_all (λ b. agrees (f b) job) xs) f xs

agreed : {X : Type 0} (f : X → List Job) (xs : List X) → list_all (λ own. list_all (λ job. list_all (λ b. agrees (f b) job) xs) (f own)) xs ≡ true → Agree (all_jobs (map f xs))
agreed f xs h i k a b at_a at_b same =
    let each = sym (all_agree f xs) ∙ h in
    let of_b = all_at (λ job. list_all (λ x. agrees (f x) job) xs) (all_jobs (map f xs)) k b each at_b in
    let all = sym (all_nested (fits b) f xs) ∙ of_b in
    let one : fits b a ≡ true = all_at (fits b) (all_jobs (map f xs)) i a all at_a in
    told (a.key == b.key) (a.outcome == b.outcome) refl refl one
  where
    told : (p q : Bool) → (a.key == b.key) ≡ p → (a.outcome == b.outcome) ≡ q → (not p || q) ≡ true → a.outcome ≡ b.outcome
    told false q kp kq e = grind (arith, nat_tests, kp, same)
    told true true kp kq e = grind (arith, nat_tests, kq)
    told true false kp kq e = absurd (let bad : false ≡ true = e in cc)

disagreed : {X : Type 0} (f : X → List Job) (xs : List X) → list_all (λ own. list_all (λ job. list_all (λ b. agrees (f b) job) xs) (f own)) xs ≡ false → Agree (all_jobs (map f xs)) → ⊥
disagreed f xs h agree =
    let each = sym (all_agree f xs) ∙ h in
    let other = not_all (λ job. list_all (λ x. agrees (f x) job) xs) (all_jobs (map f xs)) each in
    let all = sym (all_nested (fits other.1) f xs) ∙ other.3 in
    let one = not_all (fits other.1) (all_jobs (map f xs)) all in
    told one.1 other.1 (agree one.0 other.0 one.1 other.1 one.2 other.2) (one.1.key == other.1.key) (one.1.outcome == other.1.outcome) refl refl one.3
  where
    told : (a b : Job) → (a.key ≡ b.key → a.outcome ≡ b.outcome) → (p q : Bool) → (a.key == b.key) ≡ p → (a.outcome == b.outcome) ≡ q → (not p || q) ≡ false → ⊥
    told a b same false q kp kq e = absurd (let bad : true ≡ false = e in cc)
    told a b same true true kp kq e = absurd (let bad : true ≡ false = e in cc)
    told a b same true false kp kq e =
        let keys : a.key ≡ b.key = grind (arith, nat_tests, kp) in
        let outcomes = same keys in
        grind (arith, nat_tests, kq, outcomes)

-- all of it

pub jobs_are : {X : Type 0} (f : X → List Job) (xs : List X) → is_some (last_image 0 (all_jobs (map f xs))) ≡ true
    → list_all (λ own. list_all (λ job. list_all (λ b. agrees (f b) job) xs) (f own)) xs ≡ true → AreJobs (map f xs)
jobs_are f xs rise agree = record { rise = rises 0 (all_jobs (map f xs)) rise; agree = agreed f xs agree }

pub images_fall : {X : Type 0} (f : X → List Job) (xs : List X) → is_some (last_image 0 (all_jobs (map f xs))) ≡ false → AreJobs (map f xs) → ⊥
images_fall f xs fall jobs = falls 0 (all_jobs (map f xs)) fall jobs.rise

pub outcomes_differ : {X : Type 0} (f : X → List Job) (xs : List X)
    → list_all (λ own. list_all (λ job. list_all (λ b. agrees (f b) job) xs) (f own)) xs ≡ false → AreJobs (map f xs) → ⊥
outcomes_differ f xs differ jobs = disagreed f xs differ jobs.agree

-- How a raw log is read as far as its headers tell.
use Rattle.std.proofs.Common.{ℕ, zero, suc, ◌≡◌, ◌≢◌, ◌==◌, ◌+◌, ◌*◌, ◌-◌, ◌^◌, ◌<◌, ◌≤◌, ◌⊎◌, ◌||◌, true, false, min, List, [], ◌++◌, length, take, Option, Some, None, IfSome, refl, sym, subst, ◌∙◌, ap, inl, inr, arith, append_assoc, append-nil}
use Rattle.std.specs.Io.KnownBytes.{Consumes, IsAtEnd, Keeps}
use Rattle.std.proofs.Math.Seq.{take-append_seam}
use Rattle.std.proofs.lemmas.Int.{clamps}
use Rattle.std.proofs.lemmas.Bool.Decides.{nat_tests}
use Rattle.std.proofs.lemmas.List.{take_all}
use Rattle.base.specs.Sizes.{raw_limit}
use Rattle.base.specs.declared.limits.Limits.{Limits}
use Rattle.base.specs.Numbers.{number_at}
use Rattle.raw_log.specs.Raw.{bytes_in}
use Rattle.raw_log.specs.Faults.{size_at, times_at, header, data_sectors}
use Rattle.input_files.specs.declared.reach.RawReach.{RawReach}
use Rattle.input_files.specs.RawLogs.{is_known, entries_of, needed_length, read_raw, IsNext, IsReach}
use Rattle.input_files.proofs.Kept.{number_kept}
use Rattle.input_files.proofs.RawLogs.{sectors_in, sizes, up_to, needed_known, raw_limit_most, raw_limit_some, some_needed}

-- the bytes that a reader has left, after it gave some and then more
pub consumed : (a b c : Option (List ℕ)) (bs cs : List ℕ) → Consumes a b bs → Consumes b c cs → Consumes a c (bs ++ cs)
consumed None b c bs cs p q = tt
consumed (Some x) None c bs cs p q = absurd p
consumed (Some x) (Some y) None bs cs p q = absurd q
consumed (Some x) (Some y) (Some z) bs cs p q = p ∙ ap (λ l. bs ++ l) q ∙ sym (append_assoc bs cs z)

pub kept_left : (a b c : Option (List ℕ)) (bs : List ℕ) → Consumes a b bs → Keeps b c → Consumes a c bs
kept_left None b c bs p q = tt
kept_left (Some x) None c bs p q = absurd p
kept_left (Some x) (Some y) None bs p q = absurd q
kept_left (Some x) (Some y) (Some z) bs p q = p ∙ ap (λ l. bs ++ l) (sym q)

pub nothing_read : (a : Option (List ℕ)) → Consumes a a []
nothing_read None = tt
nothing_read (Some x) = refl

-- after the first entry that is left
next_header : (bytes : List ℕ) (size reached left extent : ℕ) → IsNext bytes size reached left → extent ≡ data_sectors bytes (reached - size) * size
    → header (times_at bytes) bytes (suc (entries_of bytes - left)) ≡ reached + extent
next_header bytes size reached left extent next told =
    let i : ℕ = entries_of bytes - left in
    let k : ℕ = times_at bytes in
    let s : ℕ = header k bytes i in
    let begins : reached - size ≡ s = let e = next.ends in omega (arith, clamps, e) in
    let bytes_are : bytes_in k (1 + data_sectors bytes s) ≡ (1 + data_sectors bytes s) * size_at bytes = sectors_in bytes (1 + data_sectors bytes s) next.known in
    let spread : (1 + data_sectors bytes s) * size_at bytes ≡ size_at bytes + data_sectors bytes s * size_at bytes = omega arith in
    let here : extent ≡ data_sectors bytes s * size_at bytes = told ∙ ap (λ n. data_sectors bytes n * size) begins ∙ ap (λ z. data_sectors bytes s * z) next.sector in
    let at = next.ends in
    let size_is = next.sector in
    omega (arith, bytes_are, spread, here, at, size_is)

-- one header more after it
one_more : (bytes : List ℕ) (i : ℕ) → is_known bytes ≡ true → header (times_at bytes) bytes i + size_at bytes ≤ header (times_at bytes) bytes (suc i)
one_more bytes i known =
    let k : ℕ = times_at bytes in
    let d : ℕ = data_sectors bytes (header k bytes i) in
    let bytes_are : bytes_in k (1 + d) ≡ (1 + d) * size_at bytes = sectors_in bytes (1 + d) known in
    let spread : (1 + d) * size_at bytes ≡ size_at bytes + d * size_at bytes = omega arith in
    omega (arith, bytes_are, spread)

-- how far a raw log is to be read, as a value
abbrev pub Reaches : List ℕ → RawReach → Type 0
Reaches bytes r = IsReach r.limits bytes r.size r.needed r.left

cases_zero : (n : ℕ) → (n ≡ 0) ⊎ (0 < n)
cases_zero zero = inl refl
cases_zero (suc n) = inr (omega arith)

-- what is needed is no less than what is read next
pub reached_needed : (bytes : List ℕ) (r : RawReach) → r.needed ≤ raw_limit r.limits → Reaches bytes r → r.needed ≤ needed_length r.limits bytes
reached_needed bytes r most is = elim (cases_zero r.left) [
  | inl none ↦ let e = is.last none in omega (arith, e)
  | inr some ↦
      let next = is.next some in
      let n : ℕ = entries_of bytes in
      let left = next.some in
      let more = one_more bytes (n - r.left) next.known in
      let beyond = up_to (times_at bytes) bytes (suc (n - r.left)) n (omega (arith, some, left)) in
      let all = needed_known r.limits bytes next.known in
      let at = next.ends in
      let size = next.sector in
      omega (arith, clamps, more, beyond, all, at, size, most)
]

-- the first bytes of a raw log tell how far it is to be read next
pub first_unknown : (limits : Limits) (raw rest : List ℕ) (size : ℕ) → 512 ≤ length raw → size ≡ number_at 4 24 raw → size ≢ 512 → size ≢ 4096 → IsReach limits (raw ++ rest) 512 512 0
unfolding needed_length
first_unknown limits raw rest size long is other none =
    let all : size_at (raw ++ rest) ≡ size = number_kept 4 24 raw rest (omega (arith, long)) ∙ sym is in
    let small : (size == 512) ≡ false = grind (arith, nat_tests, other) in
    let large : (size == 4096) ≡ false = grind (arith, nat_tests, none) in
    record {
      next = λ h. absurd (omega (arith, h));
      last = λ _. rw (all, small, large) refl;
    }

pub first_known : (limits : Limits) (raw rest : List ℕ) (size reached left : ℕ) → 512 ≤ length raw → size ≡ number_at 4 24 raw → (size ≡ 512) ⊎ (size ≡ 4096) → left ≡ number_at 8 16 raw → (left ≡ 0 → reached ≡ size) → (0 < left → reached ≡ 2 * size)
    → IsReach limits (raw ++ rest) size reached left
first_known limits raw rest size reached left long size_is either left_is ends more =
    let size_known : ((size == 512) || (size == 4096)) ≡ true = elim either [ inl small ↦ rw small refl | inr large ↦ rw large refl ] in
    let bytes : List ℕ = raw ++ rest in
    let size_at_all : size_at bytes ≡ size = number_kept 4 24 raw rest (omega (arith, long)) ∙ sym size_is in
    let count : entries_of bytes ≡ left = number_kept 8 16 raw rest (omega (arith, long)) ∙ sym left_is in
    let known : is_known bytes ≡ true = ap (λ n. (n == 512) || (n == 4096)) size_at_all ∙ size_known in
    let begins : header (times_at bytes) bytes 0 ≡ 1 * size_at bytes = sectors_in bytes 1 known in
    record {
      next = λ h.
          let first : entries_of bytes - left ≡ 0 = omega (arith, clamps, count) in
          let there : header (times_at bytes) bytes (entries_of bytes - left) ≡ header (times_at bytes) bytes 0 = ap (λ n. header (times_at bytes) bytes n) first in
          let twice = more h in
          record {
            known = known;
            sector = sym size_at_all;
            some = omega (arith, count);
            ends = omega (arith, there, begins, size_at_all, twice);
          };
      last = λ h.
          let is = needed_known limits bytes known in
          let there : header (times_at bytes) bytes (entries_of bytes) ≡ header (times_at bytes) bytes 0 = ap (λ n. header (times_at bytes) bytes n) (count ∙ h) in
          let once = ends h in
          let most = (sizes bytes known).1 in
          omega (arith, clamps, is, there, begins, size_at_all, once, most, raw_limit_some limits);
    }

-- what the header of the next entry tells is the same in what was read
told_alike : (raw rest : List ℕ) (h : ℕ) → h + 32 ≤ length raw → data_sectors (raw ++ rest) h ≡ data_sectors raw h
told_alike raw rest h within =
    let count = number_kept 8 (h + 8) raw rest (omega (arith, within)) in
    let word = number_kept 8 (h + 16) raw rest (omega (arith, within)) in
    rw (count, word) refl

-- the extent after the first entry that is left, and the header after them
pub go_on : (raw rest : List ℕ) (r : RawReach) (extent sum next reached : ℕ) → 0 < r.left → 512 ≤ r.size → r.size ≤ r.needed → r.needed ≤ length raw
    → extent ≡ min (data_sectors raw (r.needed - r.size) * r.size) (2 ^ 64 - 1) → (r.left - 1 ≡ 0 → next ≡ 0) → (0 < r.left - 1 → next ≡ r.size)
    → sum ≡ min (r.needed + extent) (2 ^ 64 - 1) → reached ≡ min (sum + next) (2 ^ 64 - 1) → Reaches (raw ++ rest) r
    → (raw_limit r.limits < reached → IsReach r.limits (raw ++ rest) r.size (raw_limit r.limits) 0)
    × (reached ≤ raw_limit r.limits → IsReach r.limits (raw ++ rest) r.size reached (r.left - 1))
go_on raw rest r extent sum next reached some sector header_in within data_is none one sum_is reached_is is =
    let bytes : List ℕ = raw ++ rest in
    let before = is.next some in
    let n : ℕ = entries_of bytes in
    let i : ℕ = n - r.left in
    let alike : data_sectors bytes (r.needed - r.size) ≡ data_sectors raw (r.needed - r.size) = told_alike raw rest (r.needed - r.size) (omega (arith, clamps, sector, header_in, within)) in
    let whole : ℕ = data_sectors bytes (r.needed - r.size) * r.size in
    let same : extent ≡ min whole (2 ^ 64 - 1) = data_is ∙ ap (λ d. min (d * r.size) (2 ^ 64 - 1)) (sym alike) in
    let beyond : header (times_at bytes) bytes (suc i) ≡ r.needed + whole = next_header bytes r.size r.needed r.left whole before refl in
    let all = needed_known r.limits bytes before.known in
    let left = before.some in
    let size = before.sector in (
      λ far.
          let last : header (times_at bytes) bytes (suc i) + next ≤ header (times_at bytes) bytes n = elim (cases_zero (r.left - 1)) [
            | inl ended ↦
                let zero_next = none ended in
                let up = up_to (times_at bytes) bytes (suc i) n (omega (arith, clamps, some, left)) in
                omega (arith, zero_next, up)
            | inr more ↦
                let next_is = one more in
                let step = one_more bytes (suc i) before.known in
                let up = up_to (times_at bytes) bytes (suc (suc i)) n (omega (arith, clamps, more, left)) in
                omega (arith, next_is, step, up, size)
          ] in
          record {
            next = λ h. absurd (omega (arith, h));
            last = λ _. omega (arith, clamps, all, last, beyond, same, sum_is, reached_is, far, raw_limit_most r.limits);
          },
      λ near.
          record {
            next = λ more.
                let next_is = one more in
                let place : n - (r.left - 1) ≡ suc i = omega (arith, clamps, some, left) in
                let there : header (times_at bytes) bytes (n - (r.left - 1)) ≡ header (times_at bytes) bytes (suc i) = ap (λ m. header (times_at bytes) bytes m) place in
                record {
                  known = before.known;
                  sector = size;
                  some = omega (arith, clamps, left);
                  ends = omega (arith, clamps, there, beyond, same, sum_is, reached_is, near, next_is, raw_limit_most r.limits);
                };
            last = λ ended.
                let zero_next = none ended in
                let place : n ≡ suc i = omega (arith, clamps, some, left, ended) in
                let there : header (times_at bytes) bytes n ≡ header (times_at bytes) bytes (suc i) = ap (λ m. header (times_at bytes) bytes m) place in
                omega (arith, clamps, all, there, beyond, same, sum_is, reached_is, near, zero_next, raw_limit_most r.limits);
          },
    )

-- a relation to what a reader gave, of a raw log whose bytes are known
abbrev pub OfKnown : Option (List ℕ) → RawReach → Type 0
OfKnown known r = IfSome known (λ xs. Reaches xs r)

pub reach_of : (a b : Option (List ℕ)) (bs slice : List ℕ) (r : RawReach) → slice ≡ bs → Consumes a b bs → ((rest : List ℕ) → Reaches (slice ++ rest) r) → OfKnown a r
reach_of None b bs slice r same p first = tt
reach_of (Some xs) None bs slice r same p first = absurd p
reach_of (Some xs) (Some ys) bs slice r same p first = subst (λ zs. Reaches zs r) (ap (λ l. l ++ ys) same ∙ sym p) (first ys)

pub reach_after : (a b : Option (List ℕ)) (bs slice : List ℕ) (r s : RawReach) → slice ≡ bs → Consumes a b bs → OfKnown a r
    → ((rest : List ℕ) → Reaches (slice ++ rest) r → Reaches (slice ++ rest) s) → OfKnown a s
reach_after None b bs slice r s same p is more = tt
reach_after (Some xs) None bs slice r s same p is more = absurd p
reach_after (Some xs) (Some ys) bs slice r s same p is more =
    let all : slice ++ ys ≡ xs = ap (λ l. l ++ ys) same ∙ sym p in
    subst (λ zs. Reaches zs s) all (more ys (subst (λ zs. Reaches zs r) (sym all) is))

-- what was read, where a reader gave as much as is needed, or came to its end before
pub all_read : (limits : Limits) (a b : Option (List ℕ)) (bs : List ℕ) (r : RawReach) → r.limits ≡ limits → Consumes a b bs → OfKnown a r → r.left ≡ 0
    → length bs ≡ r.needed → IfSome a (λ xs. bs ≡ read_raw limits xs)
all_read limits None b bs r same p is none long = tt
all_read limits (Some xs) None bs r same p is none long = absurd p
all_read limits (Some xs) (Some ys) bs r same p is none long =
    let most : needed_length r.limits xs ≡ length bs = sym (is.last none) ∙ sym long in
    subst (λ (l : Limits). bs ≡ read_raw l xs) same
    (sym (take-append_seam bs ys) ∙ ap (take (length bs)) (sym p) ∙ ap (λ n. take n xs) (sym most))

pub read_to_end : (limits : Limits) (a b : Option (List ℕ)) (bs : List ℕ) (r : RawReach) → r.limits ≡ limits → r.needed ≤ raw_limit r.limits → Consumes a b bs
    → IsAtEnd b → OfKnown a r → length bs ≤ r.needed → IfSome a (λ xs. bs ≡ read_raw limits xs)
read_to_end limits None b bs r same most p end is within = tt
read_to_end limits (Some xs) None bs r same most p end is within = absurd p
read_to_end limits (Some xs) (Some ys) bs r same most p end is within =
    let whole : xs ≡ bs = p ∙ ap (λ l. bs ++ l) end ∙ append-nil bs in
    let far = reached_needed xs r most is in
    let long = ap length whole in
    subst (λ (l : Limits). bs ≡ read_raw l xs) same
    (sym whole ∙ sym (take_all (needed_length r.limits xs) xs (omega (arith, far, long, within))))

pub read_short_file : (limits : Limits) (a b : Option (List ℕ)) (bs : List ℕ) → Consumes a b bs → IsAtEnd b → length bs ≤ 512 → IfSome a (λ xs. bs ≡ read_raw limits xs)
read_short_file limits None b bs p end within = tt
read_short_file limits (Some xs) None bs p end within = absurd p
read_short_file limits (Some xs) (Some ys) bs p end within =
    let whole : xs ≡ bs = p ∙ ap (λ l. bs ++ l) end ∙ append-nil bs in
    let far = some_needed limits xs in
    let long = ap length whole in
    sym whole ∙ sym (take_all (needed_length limits xs) xs (omega (arith, far, long, within)))

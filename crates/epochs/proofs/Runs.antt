-- The volatile units of a cut are one run of the parts that are not forced.
use Rattle.std.proofs.Common.{ℕ, zero, suc, ◌≡◌, ◌≤◌, Bool, true, false, if◌then◌else◌, List, ◌++◌, length, drop, refl, sym, ◌∙◌, ap, inl, inr, arith}
use Rattle.std.specs.Option.{option_map_or}
use Rattle.std.proofs.lemmas.Option.{slice_get_cases}
use Rattle.logfmt.specs.declared.entry.Entry.{Entry}
use Rattle.epochs.specs.declared.part.Part.{Part}
use Rattle.epochs.specs.declared.part.By.{By}
use Rattle.epochs.specs.Parts.{volatile_parts}
use Rattle.epochs.specs.Cuts.{is_flush_at}
use Rattle.epochs.specs.Table.{unforced_parts}
use Rattle.epochs.specs.Laws.{VolatileIsRun, last_flush}
use Rattle.epochs.proofs.Growth.{own_parts, unforced_parts-next, volatile_parts-next}
use Rattle.epochs.proofs.Rows.{next_volatile}
use Rattle.epochs.proofs.Search.{unforced_parts-rise}

choose_le : (flush : Bool) (k m : ℕ) → m ≤ k → (if flush then k else m) ≤ suc k
choose_le true k m h = omega arith
choose_le false k m h = omega (arith, h)

pub last_flush_le : (es : List Entry) (k : ℕ) → last_flush es k ≤ k
last_flush_le es zero = omega arith
last_flush_le es (suc k) = choose_le (is_flush_at es k) k (last_flush es k) (last_flush_le es k)

-- where the run begins
begins : (way : By) (es : List Entry) (flush : Bool) (k m : ℕ)
    → (if flush then length (unforced_parts way es k) else length (unforced_parts way es m)) ≡ length (unforced_parts way es (if flush then k else m))
begins way es true k m = refl
begins way es false k m = refl

no_parts : (way : By) (es : List Entry) → volatile_parts way es 0 ≡ drop (length (unforced_parts way es 0)) (unforced_parts way es 0)
unfolding volatile_parts unforced_parts
no_parts way es = refl

pub volatile_is_run : VolatileIsRun
volatile_is_run way es zero h = no_parts way es
volatile_is_run way es (suc k) h =
    let before = volatile_is_run way es k (omega (arith, h)) in
    let m : ℕ = last_flush es k in
    let rise = unforced_parts-rise way es m k (last_flush_le es k) (omega (arith, h)) in
    elim (slice_get_cases es k).1 [
      | inl a ↦
          let own : List Part = own_parts way k a.0 in
          let grown = unforced_parts-next way es k a.0 a.2 in
          let flag : a.0.flags.flush ≡ is_flush_at es k =
          sym (ap (λ o. option_map_or (λ (entry : Entry). entry.flags.flush) o false) a.2) in
          volatile_parts-next way es k a.0 a.2
          ∙ next_volatile a.0.flags.flush (length (unforced_parts way es k)) (length (unforced_parts way es m)) (unforced_parts way es k) (volatile_parts way es k) own refl rise before
          ∙ ap (λ n. drop n (unforced_parts way es k ++ own)) (begins way es a.0.flags.flush k m)
          ∙ ap (drop (length (unforced_parts way es (if a.0.flags.flush then k else m)))) (sym grown)
          ∙ ap (λ b. drop (length (unforced_parts way es (if b then k else m))) (unforced_parts way es (suc k))) flag
      | inr past ↦ absurd (omega (arith, past.0, h))
    ]

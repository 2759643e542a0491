-- Where no entry has more than one sector, parts by write are parts by sector.
use Rattle.std.proofs.Common.{ℕ, zero, suc, ◌≡◌, ◌+◌, ◌≤◌, List, [], ◌∷◌, ◌++◌, map, filter, take, length, slice_get, Some, None, refl, ◌∙◌, ap, arith}
use Rattle.logfmt.specs.declared.entry.Entry.{Entry}
use Rattle.epochs.specs.declared.part.By.TheVariants as by
use Rattle.epochs.specs.declared.part.Part.{Part}
use Rattle.epochs.specs.Units.{of_entries}
use Rattle.epochs.specs.Parts.{parts_of_entry, is_volatile, volatile_parts}
use Rattle.epochs.specs.Cuts.{cuts_of}
use Rattle.choices.specs.Choices.{departure_of, choice_of, choices_at, choices_over, ranked_choices}
use Rattle.choices.specs.Picks.{picks_within, fates_of}
use Rattle.choices.specs.Laws.{WaysAgree}

-- the only part of an entry of one sector, and of none
parts_alike : (e : ℕ) (x : Entry) (n : ℕ) → x.count ≡ n → n ≤ 1 → parts_of_entry by.Write e x ≡ parts_of_entry by.Sector e x
parts_alike e x zero is le = rw is refl
parts_alike e x (suc zero) is le = rw is refl
parts_alike e x (suc (suc n)) is le = absurd (omega (arith, le))

before_alike : (e : ℕ) (xs : List Entry) → ((i : ℕ) (x : Entry) → slice_get xs i ≡ Some x → x.count ≤ 1)
    → of_entries (parts_of_entry by.Write) e xs ≡ of_entries (parts_of_entry by.Sector) e xs
before_alike e [] small = refl
before_alike e (x ∷ xs) small =
    ap (λ ps. ps ++ of_entries (parts_of_entry by.Write) (suc e) xs) (parts_alike e x x.count refl (small 0 x refl))
    ∙ ap (λ ps. parts_of_entry by.Sector e x ++ ps) (before_alike (suc e) xs (λ i y there. small (suc i) y there))

in_take : (k : ℕ) (es : List Entry) (i : ℕ) (x : Entry) → slice_get (take k es) i ≡ Some x → slice_get es i ≡ Some x
in_take zero es i x h = absurd (let bad : None ≡ Some x = h in cc)
in_take (suc k) [] i x h = absurd (let bad : None ≡ Some x = h in cc)
in_take (suc k) (y ∷ ys) zero x h = h
in_take (suc k) (y ∷ ys) (suc i) x h = in_take k ys i x h

volatile_alike : (es : List Entry) (k : ℕ) → ((i : ℕ) (x : Entry) → slice_get es i ≡ Some x → x.count ≤ 1)
    → volatile_parts by.Write es k ≡ volatile_parts by.Sector es k
unfolding volatile_parts
volatile_alike es k small = ap (filter (is_volatile es k)) (before_alike 0 (take k es) (λ i x there. small i x (in_take k es i x there)))

choices_alike : (es : List Entry) (m bound place cut : ℕ) → ((i : ℕ) (x : Entry) → slice_get es i ≡ Some x → x.count ≤ 1)
    → choices_at by.Write es m bound place cut ≡ choices_at by.Sector es m bound place cut
unfolding choices_at choice_of
choices_alike es m bound place cut small =
    ap (λ (ps : List Part). map (λ picks. record { place = place; cut = cut; picks = picks; departures = map (departure_of ps) picks }) (picks_within m bound (length ps)))
    (volatile_alike es cut small)

over_alike : (es : List Entry) (m bound place : ℕ) (cuts : List ℕ) → ((i : ℕ) (x : Entry) → slice_get es i ≡ Some x → x.count ≤ 1)
    → choices_over by.Write es m bound place cuts ≡ choices_over by.Sector es m bound place cuts
unfolding choices_over
over_alike es m bound place [] small = refl
over_alike es m bound place (cut ∷ cuts) small =
    ap (λ cs. cs ++ choices_over by.Write es m bound (place + 1) cuts) (choices_alike es m bound place cut small)
    ∙ ap (λ cs. choices_at by.Sector es m bound place cut ++ cs) (over_alike es m bound (place + 1) cuts small)

pub ways_agree : WaysAgree
unfolding ranked_choices
ways_agree log kind bound tears small = over_alike log.entries (fates_of tears) bound 0 (cuts_of kind log.entries) small

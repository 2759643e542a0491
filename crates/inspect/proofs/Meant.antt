-- The choice that is meant, and what is shown of it.
use Rattle.std.proofs.Common.{ℕ, ◌≡◌, ◌≤◌, Bool, List, length, slice_get, Option, Some, None, Result, IfOk, sym, subst, inl, inr, ◌∙◌, ap, arith}
use Rattle.std.specs.Prelude.{MatchOption, ◌⊎◌}
use Rattle.std.proofs.lemmas.Option.{same_Some, slice_get_within}
use Rattle.arrayvec.specs.ArrayString.{ArrayString}
use Rattle.base.specs.declared.refusal.Refusal.{Refusal}
use Rattle.base.specs.Refusals.{memory_refusal}
use Rattle.logfmt.specs.Bounds.{LogValue}
use Rattle.epochs.specs.Plan.{PlanValue}
use Rattle.choices.specs.Choices.{ChoiceValue, ranked_choices}
use Rattle.images.specs.Views.{IsMember}
use Rattle.request.specs.declared.settings.Settings.{Settings}
use Rattle.request.specs.declared.command.Which.{Which}
use Rattle.request.specs.declared.command.Which.TheVariants as which
use Rattle.request.specs.Settings.{option_refusal}
use Rattle.request.specs.Source.{Recording, plan_of, HasImages}
use Rattle.inspect.specs.Which.{IsPrinted, IsMeant, IsOnly, NoneIs, which_place}
use Rattle.inspect.specs.declared.looks.image_command.ImageForm.{ImageForm}
use Rattle.inspect.specs.Image.{text_in, IsImageIn, RefusesImage, for_number, for_memory}

-- the choice of a number is the one that is meant by it
pub numbered_meant : (plan : PlanValue) (bound : ℕ) (tears : Bool) (n : ℕ) (found : Option ChoiceValue)
    → MatchOption found (length (ranked_choices plan bound tears) ≤ n) (λ c. slice_get (ranked_choices plan bound tears) n ≡ Some c)
    → MatchOption found (NoneIs (IsMeant plan bound tears (which.Number n))) (IsOnly (IsMeant plan bound tears (which.Number n)))
numbered_meant plan bound tears n None past = record {
  none = λ c there. let within = slice_get_within (ranked_choices plan bound tears) n c there in omega (arith, past, within);
}
numbered_meant plan bound tears n (Some c) there = record { is = there; only = λ other is. same_Some other c (sym is ∙ there) }

-- and so is that of a text
pub printed_meant : {E : Type 0} (plan : PlanValue) (bound : ℕ) (tears : Bool) (w : Which) (cut : ℕ) (said : ArrayString) (text : List ℕ) (r : Result (Option ChoiceValue) E)
    → w ≡ which.Printed cut (Some said) → text ≡ said.bytes → IfOk r (λ found. MatchOption found (NoneIs (IsPrinted plan bound tears cut text)) (IsOnly (IsPrinted plan bound tears cut text)))
    → IfOk r (λ found. MatchOption found (NoneIs (IsMeant plan bound tears w)) (IsOnly (IsMeant plan bound tears w)))
printed_meant plan bound tears w cut said text r e f is = rw (e, ← f) is

-- a choice that is meant is one of the plan
pub meant_member : (plan : PlanValue) (bound : ℕ) (tears : Bool) (w : Which) (c : ChoiceValue) → IsMeant plan bound tears w c → IsMember plan c
meant_member plan bound tears (which.Number n) c is = record { bound = bound; tears = tears; number = n; there = is }
meant_member plan bound tears (which.Printed cut None) c is = absurd is
meant_member plan bound tears (which.Printed cut (Some text)) c is = record { bound = bound; tears = tears; number = is.number; there = is.there }

-- why no image is shown where none is meant
pub choice_refused : (text : Recording) (s : Settings) (value : LogValue) (plan : PlanValue) (w : Which) (r : Refusal) → HasImages text s value → plan ≡ plan_of s value
    → (r ≡ memory_refusal) ⊎ ((r ≡ option_refusal (which_place w)) × NoneIs (IsMeant plan s.bound s.tears w)) → RefusesImage text s w r
choice_refused text s value plan w r has same why =
    elim why [
      | inl e ↦ rw e (for_memory value has)
      | inr none ↦ rw none.0 (for_number value has (subst (λ (p : PlanValue). NoneIs (IsMeant p s.bound s.tears w)) same none.1))
    ]

-- what is answered where one is
pub image_is : (form : ImageForm) (text : Recording) (s : Settings) (value : LogValue) (plan : PlanValue) (w : Which) (c : ChoiceValue) (bytes : List ℕ) → HasImages text s value
    → plan ≡ plan_of s value → IsOnly (IsMeant plan s.bound s.tears w) c → bytes ≡ text_in form s plan c → IsImageIn form text s w bytes
image_is form text s value plan w c bytes has same meant shown = record {
  value = value;
  source = has;
  choice = c;
  meant = subst (λ (p : PlanValue). IsOnly (IsMeant p s.bound s.tears w) c) same meant;
  shown = shown ∙ ap (λ (p : PlanValue). text_in form s p c) same;
}

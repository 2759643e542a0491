-- Instructions with their distances, one more at a time.
use Rattle.std.proofs.Common.{◌≡◌, ℕ, zero, suc, ◌+◌, ◌<◌, ◌≤◌, List, [], ◌∷◌, ◌++◌, length, get_or, drop, map, Option, None, Some, refl, sym, ap, ◌∙◌, arith, append_assoc, add-one}
use Rattle.std.proofs.lemmas.List.{append-nil, length-map}
use Rattle.bpf_asm.specs.declared.outline.WantedLabel.{WantedLabel}
use Rattle.std.proofs.Math.Seq.{drop-length}
use Rattle.bpf_isa.specs.declared.instr.Instr.{Instr}
use Rattle.bpf_asm.specs.declared.outline.Outline as code
use Rattle.bpf_asm.specs.Operands.{Draft, ◌>>=◌}
use Rattle.bpf_asm.specs.Statements.{Statement, name_value}
use Rattle.bpf_asm.specs.Says.{drafts_of, label_slot, slots_in, all_placed, instr_at}
use Rattle.bpf_asm.specs.Outlines.{slot_count, IsOutline, labels_in, LabelsFit}
use Rattle.bpf_asm.proofs.Outlines.{label_within}

-- after the first i drafts, which are these instructions, at this slot
pub record PlacedSoFar (at : List ℕ → Option ℕ) (drafts : List Draft) (i : ℕ) (instrs : List Instr) (slot : ℕ) : Type 0 where
  pub left : (all_placed at slot (drop i drafts) >>= (λ more. Some (instrs ++ more))) ≡ all_placed at 0 drafts
  pub slots : slot + slot_count (drop i drafts) ≡ slot_count drafts

none_first : (r : Option (List Instr)) → (r >>= (λ more. Some ([] ++ more))) ≡ r
none_first None = refl
none_first (Some x) = refl

pub none_placed : (at : List ℕ → Option ℕ) (drafts : List Draft) → PlacedSoFar at drafts 0 [] 0
none_placed at drafts = record { left = none_first (all_placed at 0 drafts); slots = omega arith }

pub draft_there : (ds : List Draft) (i : ℕ) (d : Instr) (w : Option (List ℕ)) → i < length ds → d ≡ get_or (map (λ d. d.instr) ds) i d → w ≡ get_or (map (λ d. d.label) ds) i w
    → drop i ds ≡ record { instr = d; label = w } ∷ drop (i + 1) ds
draft_there [] i d w there e f = absurd (omega arith)
draft_there (x ∷ ds) zero d w there e f = let a : d ≡ x.instr = e in let b : w ≡ x.label = f in λ j. record { instr = sym a j; label = sym b j } ∷ ds
draft_there (x ∷ ds) (suc i) d w there e f = rw (add-one (suc i)) (draft_there ds i d w (omega arith) e f ∙ ap (λ (n : ℕ). record { instr = d; label = w } ∷ drop n ds) (add-one i))

step_rest : (i : Instr) (instrs : List Instr) (r : Option (List Instr)) → ((r >>= (λ others. Some (i ∷ others))) >>= (λ more. Some (instrs ++ more))) ≡ (r >>= (λ more. Some ((instrs ++ i ∷ []) ++ more)))
step_rest i instrs None = refl
step_rest i instrs (Some r) = ap (λ (x : List Instr). Some x) (sym (append_assoc instrs (i ∷ []) r))

-- one instruction more
pub one_placed : (at : List ℕ → Option ℕ) (ds : List Draft) (k : ℕ) (instrs : List Instr) (slot : ℕ) (d : Draft) (i : Instr) → drop k ds ≡ d ∷ drop (k + 1) ds
    → instr_at at slot d ≡ Some i → PlacedSoFar at ds k instrs slot → PlacedSoFar at ds (k + 1) (instrs ++ i ∷ []) (slot + slots_in d)
one_placed at ds k instrs slot d i e p h =
    let slots = h.slots in
    let counted : slot_count (drop k ds) ≡ slots_in d + slot_count (drop (k + 1) ds) = ap slot_count e in
    let first : all_placed at slot (d ∷ drop (k + 1) ds) ≡ (all_placed at (slot + slots_in d) (drop (k + 1) ds) >>= (λ others. Some (i ∷ others))) = rw p refl in
    record {
      left =
          sym (step_rest i instrs (all_placed at (slot + slots_in d) (drop (k + 1) ds)))
          ∙ ap (λ (r : Option (List Instr)). r >>= (λ more. Some (instrs ++ more))) (sym first ∙ ap (all_placed at slot) (sym e))
          ∙ h.left;
      slots = omega arith;
    }

-- a label that doesn't exist
pub not_placed : (at : List ℕ → Option ℕ) (ds : List Draft) (k : ℕ) (instrs : List Instr) (slot : ℕ) (d : Draft) → drop k ds ≡ d ∷ drop (k + 1) ds
    → instr_at at slot d ≡ None → PlacedSoFar at ds k instrs slot → all_placed at 0 ds ≡ None
not_placed at ds k instrs slot d e p h =
    let first : all_placed at slot (d ∷ drop (k + 1) ds) ≡ None = rw p refl in
    sym h.left ∙ ap (λ (r : Option (List Instr)). r >>= (λ more. Some (instrs ++ more))) (ap (all_placed at slot) e ∙ first)

-- all of them
pub all_are_placed : (at : List ℕ → Option ℕ) (ds : List Draft) (k : ℕ) (instrs : List Instr) (slot : ℕ) → k ≡ length ds → PlacedSoFar at ds k instrs slot → all_placed at 0 ds ≡ Some instrs
all_are_placed at ds k instrs slot end h =
    let none : drop k ds ≡ [] = ap (λ (n : ℕ). drop n ds) end ∙ drop-length ds in
    sym h.left ∙ ap (λ (r : Option (List Instr)). r >>= (λ more. Some (instrs ++ more))) (ap (all_placed at slot) none) ∙ ap (λ (x : List Instr). Some x) (append-nil instrs)

-- the labels of an outline are those of its statements
pub same_labels : (o : code.Outline) (said : List Statement) → IsOutline o said → labels_in o ≡ label_slot 0 said
same_labels o said h = λ j name. h.labels name j

pub labels_fit : (o : code.Outline) (said : List Statement) → IsOutline o said → LabelsFit (labels_in o)
labels_fit o said h name to e =
    let within = label_within 0 said name to (sym (h.labels name) ∙ e) in
    let count = h.count in
    let limit = h.limit in
    omega arith

-- What the code needs of an outline.

pub as_long : (o : code.Outline) (said : List Statement) → IsOutline o said → (length o.instrs.items ≡ length (drafts_of said)) × (length o.wanted.items ≡ length (drafts_of said))
as_long o said h =
    (ap length h.plain ∙ length-map (drafts_of said) (λ d. d.instr), sym (length-map o.wanted.items (λ w. name_value w.label)) ∙ ap length h.named ∙ length-map (drafts_of said) (λ d. d.label))

get_or-map : {A B : Type 0} (xs : List A) (f : A → B) (i : ℕ) (d : A) → get_or (map f xs) i (f d) ≡ f (get_or xs i d)
get_or-map [] f i d = refl
get_or-map (x ∷ xs) f zero d = refl
get_or-map (x ∷ xs) f (suc i) d = get_or-map xs f i d

-- the draft at this place
pub draft_at : (o : code.Outline) (said : List Statement) (i : ℕ) (d : Instr) (w : WantedLabel) → IsOutline o said → i < length o.instrs.items → d ≡ get_or o.instrs.items i d → w ≡ get_or o.wanted.items i w
    → drop i (drafts_of said) ≡ record { instr = d; label = name_value w.label } ∷ drop (i + 1) (drafts_of said)
draft_at o said i d w h there e f =
    let long = as_long o said h in
    let a = long.0 in
    let b = long.1 in
    let within : i < length o.wanted.items = omega arith in
    let plain = h.plain in
    let named = h.named in
    let d_is : d ≡ get_or (map (λ d. d.instr) (drafts_of said)) i d = e ∙ ap (λ (x : List Instr). get_or x i d) plain in
    let label_is : name_value w.label ≡ get_or (map (λ w. name_value w.label) o.wanted.items) i (name_value w.label) =
    ap (λ (x : WantedLabel). name_value x.label) f ∙ sym (get_or-map o.wanted.items (λ w. name_value w.label) i w) in
    draft_there (drafts_of said) i d (name_value w.label) (omega arith) d_is (label_is ∙ ap (λ (x : List (Option (List ℕ))). get_or x i (name_value w.label)) named)

-- the slot is that of a program
pub slot_within : (o : code.Outline) (said : List Statement) (i slot : ℕ) (instrs : List Instr) → IsOutline o said → PlacedSoFar (labels_in o) (drafts_of said) i instrs slot → slot ≤ 4096
slot_within o said i slot instrs h p = let slots = p.slots in let count = h.count in let limit = h.limit in omega arith

pub placed_pushed : (at : List ℕ → Option ℕ) (ds : List Draft) (k : ℕ) (instrs more : List Instr) (slot width : ℕ) (d : Draft) (i : Instr) → more ≡ instrs ++ i ∷ [] → width ≡ slots_in d
    → drop k ds ≡ d ∷ drop (k + 1) ds → instr_at at slot d ≡ Some i → PlacedSoFar at ds k instrs slot → PlacedSoFar at ds (k + 1) more (slot + width)
placed_pushed at ds k instrs more slot width d i e f here p h = rw (e, f) (one_placed at ds k instrs slot d i here p h)

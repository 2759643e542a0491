-- What a text says, by the outline of its lines.
use Rattle.std.proofs.Common.{◌≡◌, ℕ, List, [], ◌∷◌, map, Option, None, Some, refl, sym, ap, ◌∙◌, ◌⊎◌, inl, inr, Result, Ok, Err, IfOk, IfErr}
use Rattle.bpf_isa.specs.declared.instr.Instr.{Instr}
use Rattle.bpf_isa.specs.Program.{slots_of, HasCount}
use Rattle.bpf_asm.specs.declared.fault.AsmFault.{AsmFault}
use Rattle.bpf_asm.specs.declared.outline.Outline as code
use Rattle.bpf_asm.specs.Statements.{Statement}
use Rattle.bpf_asm.specs.Says.{Says, SaysNone, SaysNothing, memory_fault, all_placed, label_slot, drafts_of}
use Rattle.bpf_asm.specs.Outlines.{Outlines, IsPlaced, IsUnplaced, Stands}

pub same_said : (xs ys : List Statement) → map Some xs ≡ map Some ys → xs ≡ ys
same_said [] [] e = refl
same_said [] (y ∷ ys) e = absurd (let bad : [] ≡ Some y ∷ map Some ys = e in cc)
same_said (x ∷ xs) [] e = absurd (let bad : Some x ∷ map Some xs ≡ [] = e in cc)
same_said (x ∷ xs) (y ∷ ys) e =
    let both : Some x ∷ map Some xs ≡ Some y ∷ map Some ys = e in
    let one : Some x ≡ Some y = cc in
    let first : x ≡ y = cc in
    let others : map Some xs ≡ map Some ys = cc in
    ap (λ (s : Statement). s ∷ xs) first ∙ ap (λ (r : List Statement). y ∷ r) (same_said xs ys others)

-- a text says at most one program
pub one_program : (text : List ℕ) (p q : List (Option Instr)) → Says text p → Says text q → p ≡ q
one_program text p q a b =
    let same : a.said ≡ b.said = same_said a.said b.said (sym a.read ∙ b.read) in
    let placed : Some a.instrs ≡ Some b.instrs = sym a.placed ∙ ap (λ (s : List Statement). all_placed (label_slot 0 s) 0 (drafts_of s)) same ∙ b.placed in
    let instrs : a.instrs ≡ b.instrs = cc in
    a.listed ∙ ap slots_of instrs ∙ sym b.listed

-- what was read of all lines stands for the text
pub stands : (text : List ℕ) (o : code.Outline) → Outlines text o → Stands o
stands text o h = record { said = h.said; outline = h.outline }

-- a label that doesn't exist
pub unplaced : (text : List ℕ) (o : code.Outline) → Outlines text o → IsUnplaced o → SaysNone text
unplaced text o h none slots s =
    let same : s.said ≡ h.said = same_said s.said h.said (sym s.read ∙ h.read) in
    let bad : Some s.instrs ≡ None = sym s.placed ∙ ap (λ (x : List Statement). all_placed (label_slot 0 x) 0 (drafts_of x)) same ∙ none h.said h.outline in
    cc

-- a text without instructions names no label
pub nothing_is_placed : (text : List ℕ) (o : code.Outline) → Outlines text o → IsUnplaced o → SaysNothing text → ⊥
nothing_is_placed text o h none s =
    let same : h.said ≡ s.said = same_said h.said s.said (sym h.read ∙ s.read) in
    let drafts : drafts_of h.said ≡ [] = ap drafts_of same ∙ s.none in
    let bad : Some [] ≡ None = sym (ap (all_placed (label_slot 0 h.said) 0) drafts) ∙ none h.said h.outline in
    cc

-- no instruction, or too many
pub miscounted : (text : List ℕ) (o : code.Outline) (instrs : List Instr) → Outlines text o → IsPlaced o instrs → (HasCount (slots_of instrs) → ⊥) → SaysNone text
miscounted text o instrs h placed bad slots s =
    let same : s.said ≡ h.said = same_said s.said h.said (sym s.read ∙ h.read) in
    let both : Some s.instrs ≡ Some instrs = sym s.placed ∙ ap (λ (x : List Statement). all_placed (label_slot 0 x) 0 (drafts_of x)) same ∙ placed h.said h.outline in
    let instrs_are : s.instrs ≡ instrs = cc in
    let slots_are : slots ≡ slots_of instrs = s.listed ∙ ap slots_of instrs_are in
    let count = s.count in
    bad (rw slots_are at count)

-- the program
pub says_it : (text : List ℕ) (o : code.Outline) (instrs : List Instr) (p : List (Option Instr)) → Outlines text o → IsPlaced o instrs → HasCount (slots_of instrs) → p ≡ slots_of instrs → Says text p
says_it text o instrs p h placed count is = record {
  said = h.said;
  read = h.read;
  once = h.outline.once;
  instrs = instrs;
  placed = placed h.said h.outline;
  listed = is;
  count = rw is count;
}

-- What assembling a text that says a program answers.

pub same_again : (text : List ℕ) (p : List (Option Instr)) (r : Result (List (Option Instr)) AsmFault) → Says text p → IfOk r (λ q. Says text q) → IfOk r (λ q. q ≡ p)
same_again text p (Ok q) s e = one_program text q p e s
same_again text p (Err f) s e = tt

pub only_memory : (text : List ℕ) (p : List (Option Instr)) (r : Result (List (Option Instr)) AsmFault) → Says text p → IfErr r (λ f. (f ≡ memory_fault) ⊎ SaysNone text) → IfErr r (λ f. f ≡ memory_fault)
only_memory text p (Ok q) s e = tt
only_memory text p (Err f) s e = elim e [ inl m ↦ m | inr none ↦ absurd (none p s) ]

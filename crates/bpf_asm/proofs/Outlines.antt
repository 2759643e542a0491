-- The lines of a text, one more at a time.
use Rattle.std.proofs.Common.{◌≡◌, ℕ, ℤ, zero, suc, ◌+◌, ◌<◌, ◌≤◌, ◌⊎◌, inl, inr, Bool, true, false, if◌then◌else◌, List, [], ◌∷◌, ◌++◌, length, map, slice_get, Option, None, Some, IfErr, IfSome, IfNone, Result, Ok, Err, bytes_eq, refl, sym, ap, ◌∙◌, arith, append_assoc, length-append}
use Rattle.std.specs.Option.{option_map_or, is_some, option_map}
use Rattle.std.specs.Borrow.{Bor}
use Rattle.std.specs.Cmp.Lexicographic.{bytes_decides, nat_list_eq_equiv}
use Rattle.std.proofs.lemmas.Bool.{cases_Bool}
use Rattle.std.proofs.lemmas.List.{map-append, append-nil}
use Rattle.base.proofs.Lists.{slice_get_of_push, slice_get-append_left, slice_get-push}
use Rattle.std.proofs.lemmas.Option.{slice_get_within}
use Rattle.bpf_isa.specs.declared.instr.Instr.{Instr}
use Rattle.bpf_isa.specs.declared.instr.Instr.TheVariants as instr
use Rattle.bpf_isa.specs.Program.{entry, halves, slots_of}
use Rattle.bpf_asm.specs.declared.outline.Outline as code
use Rattle.bpf_asm.specs.declared.fault.AsmFault.{AsmFault}
use Rattle.bpf_asm.specs.Parts.{lines}
use Rattle.bpf_asm.specs.Operands.{Draft, ◌>>=◌}
use Rattle.bpf_asm.specs.Statements.{Statement, Label, Instruction, Empty, statement_of}
use Rattle.bpf_asm.specs.Says.{AreOnce, drafts_of, label_slot, slots_in, SaysNone, SaysNothing, all_placed, instr_at, aim, away, memory_fault}
use Rattle.bpf_asm.specs.Outlines.{slot_count, Holds, IsOutline, Fails, Adds, Breaks, unread, fails, IsUnread, Outlines}

-- the lines of what is left of a text
abbrev pub lines_left : Option (Bor (List ℕ)) → List (List ℕ)
lines_left None = []
lines_left (Some text) = lines text.now

abbrev pub length_left : Option (Bor (List ℕ)) → ℕ
length_left left = option_map_or (λ r. length r.now + 1) left 0

-- the lines before what is left, and what they say
pub record SoFar (text : List ℕ) (left : Option (Bor (List ℕ))) (line : ℕ) (o : code.Outline) : Type 0 where
  pub done : List (List ℕ)
  pub said : List Statement
  pub split : lines text ≡ done ++ lines_left left
  pub read : map statement_of done ≡ map Some said
  pub outline : IsOutline o said
  pub counted : line + length_left left ≤ length text + 1

-- Statements in two parts.

pub drafts_append : (xs ys : List Statement) → drafts_of (xs ++ ys) ≡ drafts_of xs ++ drafts_of ys
drafts_append [] ys = refl
drafts_append (Empty ∷ xs) ys = drafts_append xs ys
drafts_append (Label l ∷ xs) ys = drafts_append xs ys
drafts_append (Instruction d ∷ xs) ys = ap (λ (r : List Draft). d ∷ r) (drafts_append xs ys)

pub count_append : (xs ys : List Draft) → slot_count (xs ++ ys) ≡ slot_count xs + slot_count ys
count_append [] ys = omega arith
count_append (d ∷ xs) ys = let more = count_append xs ys in omega arith

abbrev pub or_else : Option ℕ → Option ℕ → Option ℕ
or_else None y = y
or_else (Some x) y = Some x

choice : (b : Bool) (slot : ℕ) (x y : Option ℕ) → (if b then Some slot else or_else x y) ≡ or_else (if b then Some slot else x) y
choice true slot x y = refl
choice false slot x y = refl

-- a label stands in the first part or in the second
pub label_append : (slot : ℕ) (xs ys : List Statement) (name : List ℕ)
    → label_slot slot (xs ++ ys) name ≡ or_else (label_slot slot xs name) (label_slot (slot + slot_count (drafts_of xs)) ys name)
label_append slot [] ys name = let e : slot ≡ slot + 0 = omega arith in ap (λ (s : ℕ). label_slot s ys name) e
label_append slot (Empty ∷ xs) ys name = label_append slot xs ys name
label_append slot (Label l ∷ xs) ys name =
    ap (λ (x : Option ℕ). if bytes_eq name l then Some slot else x) (label_append slot xs ys name)
    ∙ choice (bytes_eq name l) slot (label_slot slot xs name) (label_slot (slot + slot_count (drafts_of xs)) ys name)
label_append slot (Instruction d ∷ xs) ys name =
    let e : slot + slots_in d + slot_count (drafts_of xs) ≡ slot + (slots_in d + slot_count (drafts_of xs)) = omega arith in
    label_append (slot + slots_in d) xs ys name
    ∙ ap (λ (s : ℕ). or_else (label_slot (slot + slots_in d) xs name) (label_slot s ys name)) e

-- a label that has a slot stands on a line
pub label_stands : (slot : ℕ) (said : List Statement) (name : List ℕ) (to : ℕ) → label_slot slot said name ≡ Some to → (i : ℕ) × (slice_get said i ≡ Some (Label name))
label_stands slot [] name to e = absurd (let bad : None ≡ Some to = e in cc)
label_stands slot (Empty ∷ said) name to e = let more = label_stands slot said name to e in (suc more.0, more.1)
label_stands slot (Instruction d ∷ said) name to e = let more = label_stands (slot + slots_in d) said name to e in (suc more.0, more.1)
label_stands slot (Label l ∷ said) name to e = elim (cases_Bool (bytes_eq name l)) [
  | inl y ↦ let same : name ≡ l = (bytes_decides name l).0 y in (0, ap (λ (n : List ℕ). Some (Label n)) (sym same))
  | inr n ↦ let more = label_stands slot said name to (rw n at e) in (suc more.0, more.1)
]

-- and one that stands on a line has a slot
pub label_has_slot : (slot : ℕ) (said : List Statement) (name : List ℕ) (i : ℕ) → slice_get said i ≡ Some (Label name) → label_slot slot said name ≡ None → ⊥
label_has_slot slot [] name i e none = let bad : None ≡ Some (Label name) = e in cc
label_has_slot slot (Empty ∷ said) name zero e none = let bad : Some Empty ≡ Some (Label name) = e in cc
label_has_slot slot (Empty ∷ said) name (suc i) e none = label_has_slot slot said name i e none
label_has_slot slot (Instruction d ∷ said) name zero e none = let bad : Some (Instruction d) ≡ Some (Label name) = e in cc
label_has_slot slot (Instruction d ∷ said) name (suc i) e none = label_has_slot (slot + slots_in d) said name i e none
label_has_slot slot (Label l ∷ said) name zero e none =
    let is : Some (Label l) ≡ Some (Label name) = e in
    let same : l ≡ name = cc in
    let itself : bytes_eq name l ≡ true = rw same (nat_list_eq_equiv.refl name) in
    let bad : Some slot ≡ None = rw itself at none in
    cc
label_has_slot slot (Label l ∷ said) name (suc i) e none = elim (cases_Bool (bytes_eq name l)) [
  | inl y ↦ let bad : Some slot ≡ None = rw y at none in cc
  | inr n ↦ label_has_slot slot said name i e (rw n at none)
]

-- a label's slot is at most the number of slots
pub label_within : (slot : ℕ) (said : List Statement) (name : List ℕ) (to : ℕ) → label_slot slot said name ≡ Some to → to ≤ slot + slot_count (drafts_of said)
label_within slot [] name to e = absurd (let bad : None ≡ Some to = e in cc)
label_within slot (Empty ∷ said) name to e = label_within slot said name to e
label_within slot (Instruction d ∷ said) name to e = let more = label_within (slot + slots_in d) said name to e in omega arith
label_within slot (Label l ∷ said) name to e = elim (cases_Bool (bytes_eq name l)) [
  | inl y ↦ let is : Some slot ≡ Some to = rw y at e in let same : slot ≡ to = cc in omega arith
  | inr n ↦ label_within slot said name to (rw n at e)
]

-- One statement more.

-- a label that stands nowhere yet
pub once_label : (said : List Statement) (name : List ℕ) → AreOnce said → label_slot 0 said name ≡ None → AreOnce (said ++ Label name ∷ [])
once_label said name once none i j n hi hj = elim (slice_get_of_push said (Label name) i (Label n) hi) [
  | inl a ↦ elim (slice_get_of_push said (Label name) j (Label n) hj) [
    | inl b ↦ once i j n a b
    | inr b ↦ let is : Label n ≡ Label name = b.1 in let same : n ≡ name = cc in absurd (label_has_slot 0 said name i (a ∙ ap (λ (m : List ℕ). Some (Label m)) same) none)
  ]
  | inr a ↦ let is : Label n ≡ Label name = a.1 in let same : n ≡ name = cc in elim (slice_get_of_push said (Label name) j (Label n) hj) [
    | inl b ↦ absurd (label_has_slot 0 said name j (b ∙ ap (λ (m : List ℕ). Some (Label m)) same) none)
    | inr b ↦ a.0 ∙ sym b.0
  ]
]

once_other : (said : List Statement) (s : Statement) → ((n : List ℕ) → Label n ≡ s → ⊥) → AreOnce said → AreOnce (said ++ s ∷ [])
once_other said s other once i j n hi hj = elim (slice_get_of_push said s i (Label n) hi) [
  | inl a ↦ elim (slice_get_of_push said s j (Label n) hj) [ inl b ↦ once i j n a b | inr b ↦ absurd (other n b.1) ]
  | inr a ↦ absurd (other n a.1)
]

-- a label twice
pub twice : (said : List Statement) (name : List ℕ) (to : ℕ) → label_slot 0 said name ≡ Some to → AreOnce (said ++ Label name ∷ []) → ⊥
twice said name to e once =
    let first = label_stands 0 said name to e in
    let within : first.0 < length said = slice_get_within said first.0 (Label name) first.1 in
    let same : first.0 ≡ length said = once first.0 (length said) name (slice_get-append_left said (Label name ∷ []) first.0 within ∙ first.1) (slice_get-push said (Label name)) in
    omega arith

or_else_none : (x : Option ℕ) → or_else x None ≡ x
or_else_none None = refl
or_else_none (Some x) = refl

-- one label more
pub holds_label : (old new : List ℕ → Option ℕ) (instrs : List Instr) (wanted : List (Option (List ℕ))) (slots : ℕ) (said : List Statement) (name : List ℕ)
    → Holds old instrs wanted slots said → old name ≡ None → ((q : List ℕ) → new q ≡ (if bytes_eq name q then Some slots else old q))
    → Holds new instrs wanted slots (said ++ Label name ∷ [])
holds_label old new instrs wanted slots said name h absent put =
    let none : label_slot 0 said name ≡ None = sym (h.labels name) ∙ absent in
    let same : drafts_of (said ++ Label name ∷ []) ≡ drafts_of said = drafts_append said (Label name ∷ []) ∙ append-nil (drafts_of said) in
    let count = h.count in
    let counted : slots ≡ 0 + slot_count (drafts_of said) = omega arith in
    record {
      labels = λ q. elim (cases_Bool (bytes_eq q name)) [
        | inl y ↦
            let is : q ≡ name = (bytes_decides q name).0 y in
            let turned : bytes_eq name q ≡ true = sym (nat_list_eq_equiv.symm q name) ∙ y in
            let nowhere : label_slot 0 said q ≡ None = ap (label_slot 0 said) is ∙ none in
            rw (put q, turned, label_append 0 said (Label name ∷ []) q, nowhere, y) (ap (λ (n : ℕ). Some n) counted)
        | inr n ↦
            let turned : bytes_eq name q ≡ false = sym (nat_list_eq_equiv.symm q name) ∙ n in
            rw (put q, turned, label_append 0 said (Label name ∷ []) q, n) (h.labels q ∙ sym (or_else_none (label_slot 0 said q)))
      ];
      once = once_label said name h.once none;
      plain = h.plain ∙ ap (map (λ d. d.instr)) (sym same);
      named = h.named ∙ ap (map (λ d. d.label)) (sym same);
      count = h.count ∙ ap slot_count (sym same);
      limit = h.limit;
    }

-- one instruction more
pub holds_instruction : (at : List ℕ → Option ℕ) (instrs : List Instr) (wanted : List (Option (List ℕ))) (slots : ℕ) (said : List Statement) (d : Draft) (more : ℕ)
    → Holds at instrs wanted slots said → more ≡ slots_in d → slots + more ≤ 4096
    → Holds at (instrs ++ d.instr ∷ []) (wanted ++ d.label ∷ []) (slots + more) (said ++ Instruction d ∷ [])
holds_instruction at instrs wanted slots said d more h is limit =
    let same : drafts_of (said ++ Instruction d ∷ []) ≡ drafts_of said ++ d ∷ [] = drafts_append said (Instruction d ∷ []) in
    let counted = count_append (drafts_of said) (d ∷ []) in
    let count = h.count in
    let total : slots + more ≡ slot_count (drafts_of said ++ d ∷ []) = omega arith in
    record {
      labels = λ q. h.labels q ∙ sym (or_else_none (label_slot 0 said q)) ∙ sym (label_append 0 said (Instruction d ∷ []) q);
      once = once_other said (Instruction d) (λ n e. cc) h.once;
      plain = ap (λ (x : List Instr). x ++ d.instr ∷ []) h.plain ∙ sym (map-append (λ d. d.instr) (drafts_of said) (d ∷ [])) ∙ ap (map (λ d. d.instr)) (sym same);
      named = ap (λ (x : List (Option (List ℕ))). x ++ d.label ∷ []) h.named ∙ sym (map-append (λ d. d.label) (drafts_of said) (d ∷ [])) ∙ ap (map (λ d. d.label)) (sym same);
      count = total ∙ ap slot_count (sym same);
      limit = limit;
    }

pub holds_pushed : (at : List ℕ → Option ℕ) (instrs more_instrs : List Instr) (wanted more_wanted : List (Option (List ℕ))) (slots : ℕ) (said : List Statement) (d : Draft) (more : ℕ)
    → more_instrs ≡ instrs ++ d.instr ∷ [] → more_wanted ≡ wanted ++ d.label ∷ [] → Holds at instrs wanted slots said → more ≡ slots_in d → slots + more ≤ 4096
    → Holds at more_instrs more_wanted (slots + more) (said ++ Instruction d ∷ [])
holds_pushed at instrs more_instrs wanted more_wanted slots said d more e f h is limit = rw (e, f) (holds_instruction at instrs wanted slots said d more h is limit)

-- an empty line
pub holds_empty : (at : List ℕ → Option ℕ) (instrs : List Instr) (wanted : List (Option (List ℕ))) (slots : ℕ) (said : List Statement)
    → Holds at instrs wanted slots said → Holds at instrs wanted slots (said ++ Empty ∷ [])
holds_empty at instrs wanted slots said h =
    let same : drafts_of (said ++ Empty ∷ []) ≡ drafts_of said = drafts_append said (Empty ∷ []) ∙ append-nil (drafts_of said) in
    record {
      labels = λ q. h.labels q ∙ sym (or_else_none (label_slot 0 said q)) ∙ sym (label_append 0 said (Empty ∷ []) q);
      once = once_other said Empty (λ n e. cc) h.once;
      plain = h.plain ∙ ap (map (λ d. d.instr)) (sym same);
      named = h.named ∙ ap (map (λ d. d.label)) (sym same);
      count = h.count ∙ ap slot_count (sym same);
      limit = h.limit;
    }

-- an instruction that passes the limit
pub too_many : (at : List ℕ → Option ℕ) (instrs : List Instr) (wanted : List (Option (List ℕ))) (slots : ℕ) (said : List Statement) (d : Draft)
    → Holds at instrs wanted slots said → 4096 < slots + slots_in d → Fails (said ++ Instruction d ∷ [])
too_many at instrs wanted slots said d h past =
    let counted = count_append (drafts_of said) (d ∷ []) in
    let count = h.count in
    let total : 4096 < slot_count (drafts_of said ++ d ∷ []) = omega arith in
    inr (rw (drafts_append said (Instruction d ∷ [])) total)

-- What a whole text says where some of its lines fail.

aim_takes : (d : ℤ) (i : Instr) → length (entry (aim d i)) ≡ length (entry i)
aim_takes d (instr.Jump _) = refl
aim_takes d (instr.LongJump _) = refl
aim_takes d (instr.Branch _ _ _ _ _) = refl
aim_takes d (instr.CallLocal _) = refl
aim_takes d i = refl

-- an instruction takes the slots that its draft takes
pub placed_takes : (at : List ℕ → Option ℕ) (slot : ℕ) (d : Draft) (i : Instr) → instr_at at slot d ≡ Some i → length (entry i) ≡ slots_in d
unfolding instr_at
placed_takes at slot d i e = by_label d.label e
  where
    by_target : (to : Option ℕ) → option_map (λ to. aim (away slot to) d.instr) to ≡ Some i → length (entry i) ≡ slots_in d
    by_target None h = absurd (let bad : None ≡ Some i = h in cc)
    by_target (Some to) h = let is : Some (aim (away slot to) d.instr) ≡ Some i = h in let same : aim (away slot to) d.instr ≡ i = cc in ap (λ (x : Instr). length (entry x)) (sym same) ∙ aim_takes (away slot to) d.instr

    by_label : (label : Option (List ℕ)) → option_map_or (λ name. option_map (λ to. aim (away slot to) d.instr) (at name)) label (Some d.instr) ≡ Some i → length (entry i) ≡ slots_in d
    by_label None h = let is : Some d.instr ≡ Some i = h in let same : d.instr ≡ i = cc in ap (λ (x : Instr). length (entry x)) (sym same)
    by_label (Some name) h = by_target (at name) h

-- Small facts for the code.

pub found_key : (x : Option ℕ) → is_some x ≡ true → (n : ℕ) × (x ≡ Some n)
found_key None e = absurd (let bad : false ≡ true = e in cc)
found_key (Some n) e = (n, refl)

pub no_key : (x : Option ℕ) → is_some x ≡ false → x ≡ None
no_key None e = refl
no_key (Some n) e = absurd (let bad : true ≡ false = e in cc)

abbrev pub two_or_one : Bool → ℕ
two_or_one true = 2
two_or_one false = 1

pub width_of : (i : Instr) (wide : Bool) → halves i ≡ (if wide then None ∷ [] else []) → length (entry i) ≡ two_or_one wide
width_of i true e = ap (λ (h : List (Option Instr)). suc (length h)) e
width_of i false e = ap (λ (h : List (Option Instr)). suc (length h)) e

-- an instruction takes a slot
pub takes_some : (i : Instr) → 0 < length (entry i)
takes_some i = omega arith

-- a statement that fails makes its line the one at fault
pub breaks_with : (line : List ℕ) (next : Statement) (o : code.Outline) (r : Result (Unit {0}) AsmFault) → statement_of line ≡ Some next
    → IfErr r (λ f. (f ≡ memory_fault) ⊎ ((said : List Statement) → IsOutline o said → Fails (said ++ next ∷ [])))
    → IfErr r (λ f. (f ≡ memory_fault) ⊎ ((said : List Statement) → IsOutline o said → Breaks line said))
breaks_with line next o (Ok x) read e = tt
breaks_with line next o (Err f) read e = elim e [
  | inl m ↦ inl m
  | inr bad ↦ inr (λ said h. fails next read (bad said h))
]

-- Lines of a text and what they say.

-- the first line of what is left, and the rest
pub record FirstOf (text first : List ℕ) (beyond : Option (Bor (List ℕ))) : Type 0 where
  pub split : lines text ≡ first ∷ lines_left beyond
  pub shorter : length_left beyond < length text + 1

-- a text cut at a line's end, as its lines
pub first_of : (text first : List ℕ) (beyond : Option (Bor (List ℕ))) → IfNone beyond (lines text ≡ first ∷ []) → IfSome beyond (λ rest. lines text ≡ first ∷ lines rest.now)
    → IfSome beyond (λ rest. length rest.now < length text) → FirstOf text first beyond
first_of text first None alone more shorter = record { split = alone; shorter = omega arith }
first_of text first (Some rest) alone more shorter = record { split = more; shorter = omega arith }

-- one line more
pub one_line : (text : List ℕ) (left : Bor (List ℕ)) (line : ℕ) (old new : code.Outline) (first : List ℕ) (beyond : Option (Bor (List ℕ)))
    → (h : SoFar text (Some left) line old) → FirstOf left.now first beyond → Adds first old new h.said → SoFar text beyond (line + 1) new
one_line text left line old new first beyond h f a =
    let counted = h.counted in
    let shorter = f.shorter in
    record {
      done = h.done ++ first ∷ [];
      said = h.said ++ a.next ∷ [];
      split = h.split ∙ ap (λ (x : List (List ℕ)). h.done ++ x) f.split ∙ sym (append_assoc h.done (first ∷ []) (lines_left beyond));
      read = map-append statement_of h.done (first ∷ []) ∙ rw (h.read, a.read) (sym (map-append Some h.said (a.next ∷ [])));
      outline = a.outline;
      counted = omega arith;
    }

-- what is said of the lines begins with what is said of the first of them
pub record Begins (said all : List Statement) (line : List ℕ) : Type 0 where
  pub next : Statement
  pub more : List Statement
  pub read : statement_of line ≡ Some next
  pub split : all ≡ said ++ next ∷ more

begins_with : (done : List (List ℕ)) (line : List ℕ) (rest : List (List ℕ)) (said all : List Statement) → map statement_of done ≡ map Some said
    → map statement_of (done ++ line ∷ rest) ≡ map Some all → Begins said all line
begins_with [] line rest [] [] e h = absurd (let bad : statement_of line ∷ map statement_of rest ≡ [] = h in cc)
begins_with [] line rest [] (s ∷ all) e h =
    let is : statement_of line ∷ map statement_of rest ≡ Some s ∷ map Some all = h in
    let read : statement_of line ≡ Some s = cc in
    record { next = s; more = all; read = read; split = refl }
begins_with [] line rest (s ∷ said) all e h = absurd (let bad : [] ≡ Some s ∷ map Some said = e in cc)
begins_with (d ∷ done) line rest [] all e h = absurd (let bad : statement_of d ∷ map statement_of done ≡ [] = e in cc)
begins_with (d ∷ done) line rest (s ∷ said) [] e h = absurd (let bad : statement_of d ∷ map statement_of (done ++ line ∷ rest) ≡ [] = h in cc)
begins_with (d ∷ done) line rest (s ∷ said) (t ∷ all) e h =
    let first : statement_of d ∷ map statement_of done ≡ Some s ∷ map Some said = e in
    let second : statement_of d ∷ map statement_of (done ++ line ∷ rest) ≡ Some t ∷ map Some all = h in
    let one : Some s ≡ Some t = cc in
    let same : t ≡ s = cc in
    let before : map statement_of done ≡ map Some said = cc in
    let whole : map statement_of (done ++ line ∷ rest) ≡ map Some all = cc in
    let b = begins_with done line rest said all before whole in
    record { next = b.next; more = b.more; read = b.read; split = ap (λ (x : Statement). x ∷ all) same ∙ ap (λ (x : List Statement). s ∷ x) b.split }

-- the slots of placed instructions are those of the drafts
pub all_placed_take : (at : List ℕ → Option ℕ) (slot : ℕ) (ds : List Draft) (is : List Instr) → all_placed at slot ds ≡ Some is → length (slots_of is) ≡ slot_count ds
all_placed_take at slot [] is e = let same : Some [] ≡ Some is = e in let empty : [] ≡ is = cc in ap (λ (x : List Instr). length (slots_of x)) (sym empty)
all_placed_take at slot (d ∷ ds) is e = by_first (instr_at at slot d) refl (λ others q. all_placed_take at (slot + slots_in d) ds others q)
  where
    by_rest : (i : Instr) → instr_at at slot d ≡ Some i → ((others : List Instr) → all_placed at (slot + slots_in d) ds ≡ Some others → length (slots_of others) ≡ slot_count ds)
        → (r : Option (List Instr)) → all_placed at (slot + slots_in d) ds ≡ r → (r >>= (λ others. Some (i ∷ others))) ≡ Some is → length (slots_of is) ≡ slot_count (d ∷ ds)
    by_rest i p ih None q h = absurd (let bad : None ≡ Some is = h in cc)
    by_rest i p ih (Some others) q h =
        let same : Some (i ∷ others) ≡ Some is = h in
        let whole : i ∷ others ≡ is = cc in
        let here = placed_takes at slot d i p in
        let there = ih others q in
        ap (λ (x : List Instr). length (slots_of x)) (sym whole) ∙ length-append (entry i) (slots_of others) ∙ omega arith

    by_first : (p : Option Instr) → instr_at at slot d ≡ p → ((others : List Instr) → all_placed at (slot + slots_in d) ds ≡ Some others → length (slots_of others) ≡ slot_count ds)
        → length (slots_of is) ≡ slot_count (d ∷ ds)
    by_first None p ih = absurd (let bad : None ≡ Some is = rw p at e in cc)
    by_first (Some i) p ih = by_rest i p ih (all_placed at (slot + slots_in d) ds) refl (rw p at e)

-- a line that breaks what stands before it breaks the text
pub breaks_text : (text : List ℕ) (left : Bor (List ℕ)) (line : ℕ) (o : code.Outline) (first : List ℕ) (beyond : Option (Bor (List ℕ)))
    → (h : SoFar text (Some left) line o) → FirstOf left.now first beyond → Breaks first h.said → IsUnread text
breaks_text text left line o first beyond h f b said read = by_cause b
  where
    whole : map statement_of (h.done ++ first ∷ lines_left beyond) ≡ map Some said
    whole = ap (map statement_of) (sym (h.split ∙ ap (λ (x : List (List ℕ)). h.done ++ x) f.split)) ∙ read

    begins : Begins h.said said first
    begins = begins_with h.done first (lines_left beyond) h.said said h.read whole

    regrouped : said ≡ (h.said ++ begins.next ∷ []) ++ begins.more
    regrouped = begins.split ∙ sym (append_assoc h.said (begins.next ∷ []) begins.more)

    by_failure : Fails (h.said ++ begins.next ∷ []) → Fails said
    by_failure (inl twice) = inl (λ once. twice (λ i j n hi hj.
        let wi = slice_get_within (h.said ++ begins.next ∷ []) i (Label n) hi in
        let wj = slice_get_within (h.said ++ begins.next ∷ []) j (Label n) hj in
        let ei : slice_get said i ≡ Some (Label n) = ap (λ (x : List Statement). slice_get x i) regrouped ∙ slice_get-append_left (h.said ++ begins.next ∷ []) begins.more i wi ∙ hi in
        let ej : slice_get said j ≡ Some (Label n) = ap (λ (x : List Statement). slice_get x j) regrouped ∙ slice_get-append_left (h.said ++ begins.next ∷ []) begins.more j wj ∙ hj in
        once i j n ei ej))
    by_failure (inr past) =
        let parts : slot_count (drafts_of said) ≡ slot_count (drafts_of (h.said ++ begins.next ∷ [])) + slot_count (drafts_of begins.more) =
        ap (λ (x : List Statement). slot_count (drafts_of x)) regrouped ∙ ap slot_count (drafts_append (h.said ++ begins.next ∷ []) begins.more) ∙ count_append (drafts_of (h.said ++ begins.next ∷ [])) (drafts_of begins.more) in
        inr (omega arith)

    by_cause : Breaks first h.said → Fails said
    by_cause (unread none) = let read = begins.read in absurd (let bad : None ≡ Some begins.next = sym none ∙ read in cc)
    by_cause (fails next e bad) =
        let read = begins.read in
        let one : Some next ≡ Some begins.next = sym e ∙ read in
        let same : next ≡ begins.next = cc in
        by_failure (rw same at bad)

-- a text whose lines can't be read says no program
pub unread_says_none : (text : List ℕ) → IsUnread text → SaysNone text
unread_says_none text none slots s = elim (none s.said s.read) [
  | inl twice ↦ twice s.once
  | inr past ↦
      let total = all_placed_take (label_slot 0 s.said) 0 (drafts_of s.said) s.instrs s.placed in
      let long : length slots ≡ length (slots_of s.instrs) = ap length s.listed in
      let limit = s.count.limit in
      omega arith
]

-- the lines of a text without instructions can be read
pub nothing_is_read : (text : List ℕ) → IsUnread text → SaysNothing text → ⊥
nothing_is_read text none s = elim (none s.said s.read) [
  | inl twice ↦ twice s.once
  | inr past ↦ let zero_slots : slot_count (drafts_of s.said) ≡ 0 = ap slot_count s.none in omega arith
]

-- no line yet
pub no_line : (text : Bor (List ℕ)) (o : code.Outline) → o.labels.entries ≡ [] → o.instrs.items ≡ [] → o.wanted.items ≡ [] → o.slots ≡ 0 → SoFar text.now (Some text) 0 o
no_line text o labels instrs wanted slots = record {
  done = [];
  said = [];
  split = refl;
  read = refl;
  outline = record {
    labels = λ name. rw labels refl;
    once = λ i j n hi hj. absurd (let bad : None ≡ Some (Label n) = hi in cc);
    plain = instrs;
    named = rw wanted refl;
    count = slots;
    limit = omega arith;
  };
  counted = omega arith;
}

-- all lines
pub all_lines : (text : List ℕ) (line : ℕ) (o : code.Outline) → SoFar text None line o → Outlines text o
all_lines text line o h = record {
  said = h.said;
  read = ap (map statement_of) (h.split ∙ append-nil h.done) ∙ h.read;
  outline = h.outline;
}

-- A statement is what it begins with, and then what follows it.
use Rattle.std.proofs.Common.{◌≡◌, ℕ, ◌+◌, Bool, true, false, cond, List, ◌∷◌, refl, Option, Some, None}
use Rattle.sdv_text.specs.Fronts.{◌>>=◌}
use Rattle.sdv_graph.specs.declared.tree.Phase.{Phase}
use Rattle.sdv_graph.specs.declared.tree.Phase.TheVariants as phases
use Rattle.sdv_graph.specs.Tree.{Declared, Statement}
use Rattle.sdv_script.specs.declared.depth.Depth.{Depth}
use Rattle.sdv_script.specs.declared.keyword.Keyword.{Keyword}
use Rattle.sdv_script.specs.declared.keyword.Keyword.TheVariants as word
use Rattle.sdv_script.specs.Tokens.{Token, Key}
use Rattle.sdv_script.specs.Reading.{Progress, progress_to, Reading, Blocks, WaysOf, after_open, after_close, after_ok, read_command, read_condition, read_count, read_receive, read_plain, read_branches, read_phase, read_send, read_if, read_loop, read_after, read_statement}
use Rattle.sdv_script.specs.Heads.{Head, plain, head_after, send_head, phase_head, if_head, loop_head, read_rest, in_two_steps}

-- a step that is itself two steps
one_step : {A B C : Type 0} (o : Option A) (h : A → Option C) (f : A → Option B) (g : B → Option C) → ((a : A) → h a ≡ (f a >>= g))
    → (o >>= h) ≡ ((o >>= f) >>= g)
one_step None h f g e = refl
one_step (Some a) h f g e = e a

-- two steps that are one
two_steps : {A B C : Type 0} (o : Option A) (h : A → Option C) (f : A → Option B) (g : B → Option C) → ((a : A) → (f a >>= g) ≡ h a)
    → ((o >>= f) >>= g) ≡ (o >>= h)
two_steps None h f g e = refl
two_steps (Some a) h f g e = e a

-- two steps that are two others
other_steps : {A B D C : Type 0} (o : Option A) (f : A → Option B) (g : B → Option C) (i : A → Option D) (j : D → Option C)
    → ((a : A) → (f a >>= g) ≡ (i a >>= j))
    → ((o >>= f) >>= g) ≡ ((o >>= i) >>= j)
other_steps None f g i j e = refl
other_steps (Some a) f g i j e = e a

if_steps : {A B : Type 0} (b : Bool) (h : Option B) (o : Option A) (f : A → Option B) → h ≡ (o >>= f)
    → cond b h None ≡ (cond b o None >>= f)
if_steps true h o f e = e
if_steps false h o f e = refl

-- what follows a head that was read
abbrev rest_with : Blocks → WaysOf → Head × Progress → Reading Statement
rest_with blocks ways h = read_rest blocks ways h.0 h.1

send_steps : (blocks : Blocks) (ways : WaysOf) (names : Declared) (depth : Depth) (at : Progress)
    → read_send ways names depth at ≡ (send_head names depth at >>= rest_with blocks ways)
send_steps blocks ways names depth at =
    one_step (read_command names at.tokens) _ _ (rest_with blocks ways) (λ c.
    one_step (after_open depth c.1) _ _ (rest_with blocks ways) (λ o. refl))

phase_steps : (blocks : Blocks) (ways : WaysOf) (depth : Depth) (p : Phase) (at : Progress)
    → read_phase blocks depth p at ≡ (phase_head depth p at >>= rest_with blocks ways)
phase_steps blocks ways depth p at =
    other_steps (after_open depth at.tokens) _ _ _ (rest_with blocks ways) (λ o.
    other_steps (after_ok o.1) _ _ _ (rest_with blocks ways) (λ ts.
    two_steps (read_branches blocks o.0 o.0 (progress_to ts at.begun)) _ _ _ (λ ab.
    two_steps (after_close ab.1.tokens) _ _ _ (λ ts2. refl))))

if_head_steps : (blocks : Blocks) (ways : WaysOf) (names : Declared) (depth : Depth) (at : Progress)
    → read_if blocks names depth at ≡ (if_head names depth at >>= rest_with blocks ways)
if_head_steps blocks ways names depth at =
    one_step (read_condition names at.tokens) _ _ (rest_with blocks ways) (λ c. refl)

loop_steps : (blocks : Blocks) (ways : WaysOf) (depth : Depth) (at : Progress)
    → read_loop blocks depth at ≡ (loop_head depth at >>= rest_with blocks ways)
loop_steps blocks ways depth at =
    if_steps _ _ _ (rest_with blocks ways) (one_step (read_count at.tokens) _ _ (rest_with blocks ways) (λ n. refl))

plain_steps : (blocks : Blocks) (ways : WaysOf) (read : Reading Statement)
    → read ≡ ((read >>= λ s. Some (plain s.0, s.1)) >>= rest_with blocks ways)
plain_steps blocks ways None = refl
plain_steps blocks ways (Some s) = refl

after_steps : (blocks : Blocks) (ways : WaysOf) (names : Declared) (depth : Depth) (k : Keyword) (at : Progress)
    → read_after blocks ways names depth k at ≡ (head_after names depth k at >>= rest_with blocks ways)
after_steps blocks ways names depth word.Send at = send_steps blocks ways names depth at
after_steps blocks ways names depth word.Recv at =
    one_step (read_receive at.tokens) _ _ (rest_with blocks ways) (λ p. phase_steps blocks ways depth p.0 (progress_to p.1 at.begun))
after_steps blocks ways names depth word.Give at = phase_steps blocks ways depth phases.GiveBlocks at
after_steps blocks ways names depth word.Wait at = phase_steps blocks ways depth phases.Wait at
after_steps blocks ways names depth word.If at = if_head_steps blocks ways names depth at
after_steps blocks ways names depth word.Loop at = loop_steps blocks ways depth at
after_steps blocks ways names depth keyword at = plain_steps blocks ways (read_plain names keyword at)

pub statement_steps : (blocks : Blocks) (ways : WaysOf) (names : Declared) (depth : Depth) (ts : List Token) (begun : ℕ)
    → read_statement blocks ways names depth ts begun ≡ in_two_steps blocks ways names depth ts begun
statement_steps blocks ways names depth (Key k ∷ ts) begun =
    if_steps _ _ _ (rest_with blocks ways) (after_steps blocks ways names depth k (progress_to ts (begun + 1)))
statement_steps blocks ways names depth ts begun = refl

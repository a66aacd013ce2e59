-- Answers of one line, and what is none.
use Rattle.std.proofs.Common.{◌≡◌, ℕ, ◌≤◌, List, [], ◌∷◌, ◌++◌, length, Option, Some, None, refl, sym, ap, ◌∙◌, subst, append_assoc, arith}
use Rattle.std.specs.Prelude.{IfSome}
use Rattle.std.specs.Io.KnownBytes.{Consumes}
use Rattle.sdv_frames.specs.declared.command.Command.{Command}
use Rattle.sdv_frames.specs.declared.reply.Expect.{Expect}
use Rattle.sdv_card.specs.declared.answer.Answer.{Answer}
use Rattle.sdv_card.specs.declared.answer.DataEnd.{DataEnd}
use Rattle.sdv_card.specs.declared.answer.DataEnd.TheVariants as ends
use Rattle.sdv_card.specs.declared.answer.WaitEnd.{WaitEnd}
use Rattle.sdv_card.specs.Card.{Block}
use Rattle.sdv_card.specs.Port.{Call, Exchange, DataIn, DataInRegister, DataOut, WaitWhileBusy}
use Rattle.sdv_card.specs.ScriptEvent.{Return, Answered, BlocksIn, RegisterIn, BlocksOut, Waited}
use Rattle.sdv_lines.specs.declared.fault.ProtocolFault.{ProtocolFault}
use Rattle.sdv_lines.specs.declared.fault.ProtocolFault.TheVariants as faults
use Rattle.sdv_trace.specs.Trace.{line_feed}
use Rattle.sdv_lines.specs.Texts.{IsText, IsLine, lines_of, trimmed, trims}
use Rattle.sdv_lines.specs.Answers.{TellsAnswer, data_end_text, wait_end_text, IsAnswer}
use Rattle.sdv_lines.specs.Reading.{BeginsLong, ReadsNoLine}
use Rattle.sdv_lines.specs.Streams.{Heard, HasNoAnswer, Unheard}

-- LINES AT THE FRONT OF BYTES

-- a text ends at the first line feed
pub split_one : (a b r s : List ℕ) → IsText a → IsText b → a ++ 10 ∷ r ≡ b ++ 10 ∷ s → (a ≡ b) × (r ≡ s)
split_one [] [] r s p q e = (refl, cc)
split_one [] (y ∷ b) r s p q e = let clash : y ≡ 10 = cc in absurd (q.0 clash)
split_one (x ∷ a) [] r s p q e = let clash : x ≡ 10 = cc in absurd (p.0 clash)
split_one (x ∷ a) (y ∷ b) r s p q e =
    let tails : a ++ 10 ∷ r ≡ b ++ 10 ∷ s = cc in
    let rest = split_one a b r s p.1 q.1 tails in
    let heads : x ≡ y = cc in
    (ap (λ h. h ∷ a) heads ∙ ap (λ l. y ∷ l) rest.0, rest.1)

pub not_text : (t rest : List ℕ) → IsText (t ++ 10 ∷ rest) → ⊥
not_text [] rest p = p.0 refl
not_text (x ∷ t) rest p = not_text t rest p.1

-- a text at the front is no longer than the first line
pub no_longer : (t front rest back : List ℕ) → IsText front → t ++ 10 ∷ rest ≡ front ++ back → length front ≤ length t
no_longer t [] rest back p e = omega arith
no_longer [] (y ∷ front) rest back p e = let clash : y ≡ 10 = cc in absurd (p.0 clash)
no_longer (x ∷ t) (y ∷ front) rest back p e =
    let tails : t ++ 10 ∷ rest ≡ front ++ back = cc in
    let less = no_longer t front rest back p.1 tails in
    omega (arith, less)

-- no answer has no line
pub nonempty : (call : Call) (returned : Return) → IsAnswer call [] returned → ⊥
nonempty (Exchange command expect) returned a = a
nonempty (DataIn lines count) returned a = a
nonempty (DataInRegister lines count) returned a = a
nonempty (DataOut lines blocks) returned a = a
nonempty WaitWhileBusy returned a = a

-- WHAT IS NO ANSWER

pub first_line : (text : List ℕ) (texts : List (List ℕ)) (rest bytes : List ℕ) → bytes ≡ lines_of (text ∷ texts) ++ rest
    → bytes ≡ text ++ 10 ∷ (lines_of texts ++ rest)
first_line text texts rest bytes e = e ∙ append_assoc text (10 ∷ lines_of texts) rest

-- bytes without a line feed
unended : (call : Call) (bytes : List ℕ) → IsText bytes → HasNoAnswer call bytes
unended call bytes t [] rest returned a e = nonempty call returned a.says
unended call bytes t (text ∷ texts) rest returned a e =
    not_text text (lines_of texts ++ rest) (subst (λ (l : List ℕ). IsText l) (first_line text texts rest bytes e) t)

-- bytes whose first line is too long
overlong : (call : Call) (bytes : List ℕ) → BeginsLong bytes → HasNoAnswer call bytes
overlong call bytes b [] rest returned a e = nonempty call returned a.says
overlong call bytes (front, back, is, t, long) (text ∷ texts) rest returned a e =
    let short = a.lines.0.1 in
    let less = no_longer text front (lines_of texts ++ rest) back t (sym (first_line text texts rest bytes e) ∙ is) in
    absurd (omega (arith, short, less, long))

-- bytes whose first line is that of no answer
pub wrong_line : (call : Call) (text rest bytes : List ℕ) → IsLine text → bytes ≡ text ++ 10 ∷ rest
    → ((texts : List (List ℕ)) (returned : Return) → IsAnswer call (trimmed text ∷ texts) returned → ⊥) → HasNoAnswer call bytes
wrong_line call text rest bytes t is other [] back returned a e = nonempty call returned a.says
wrong_line call text rest bytes t is other (first ∷ texts) back returned a e =
    let same = split_one first text (lines_of texts ++ back) rest a.lines.0.0 t.0 (sym (first_line first texts back bytes e) ∙ is) in
    other (trims texts) returned (subst (λ (l : List ℕ). IsAnswer call (trimmed l ∷ trims texts) returned) same.0 a.says)

-- ANSWERS

-- an answer of one line
pub heard_one : (call : Call) (returned : Return) (old new : Option (List ℕ)) (text : List ℕ) → IsLine text → Consumes old new (text ++ line_feed)
    → IsAnswer call (trimmed text ∷ []) returned → Heard call returned old new
heard_one call returned old new text t c a = record { texts = text ∷ []; answers = record { lines = (t, tt); says = a }; read = c }

-- no line was read
pub unread : (call : Call) (old new : Option (List ℕ)) (fault : ProtocolFault) → ReadsNoLine fault old new → Unheard fault call old new
unread call None new faults.Closed r = (tt, r.1)
unread call (Some xs) new faults.Closed r = (unended call xs r.0, r.1)
unread call None new faults.Line r = tt
unread call (Some xs) new faults.Line r = overlong call xs r
unread call old new faults.Read r = tt
unread call old new faults.Write r = absurd r

-- a line that is that of no answer
pub refused : (call : Call) (old new : Option (List ℕ)) (text : List ℕ) → IsLine text → Consumes old new (text ++ line_feed)
    → ((texts : List (List ℕ)) (returned : Return) → IsAnswer call (trimmed text ∷ texts) returned → ⊥) → IfSome old (HasNoAnswer call)
refused call None new text t c other = tt
refused call (Some xs) None text t c other = absurd c
refused call (Some xs) (Some ys) text t c other = wrong_line call text ys xs t (c ∙ append_assoc text (10 ∷ []) ys) other

-- ANSWERS THAT ARE NOT TOLD

pub no_answer : (command : Command) (expect : Expect) (text : List ℕ) → ((answer : Answer) → TellsAnswer expect answer text → ⊥)
    → (texts : List (List ℕ)) (returned : Return) → IsAnswer (Exchange command expect) (text ∷ texts) returned → ⊥
no_answer command expect text n [] (Answered answer) a = n answer a
no_answer command expect text n texts returned a = a

pub no_wait : (text : List ℕ) → ((end : WaitEnd) → text ≡ wait_end_text end → ⊥) → (texts : List (List ℕ)) (returned : Return)
    → IsAnswer WaitWhileBusy (text ∷ texts) returned → ⊥
no_wait text n [] (Waited end) a = n end a
no_wait text n texts returned a = a

pub no_end : (lines : ℕ) (blocks : List Block) (text : List ℕ) → ((end : DataEnd) → text ≡ data_end_text end → ⊥) → (texts : List (List ℕ))
    (returned : Return) → IsAnswer (DataOut lines blocks) (text ∷ texts) returned → ⊥
no_end lines blocks text n [] (BlocksOut end) a = n end a
no_end lines blocks text n texts returned a = a

pub no_data : (lines count : ℕ) (text : List ℕ) → ((end : DataEnd) → text ≡ data_end_text end → ⊥) → (texts : List (List ℕ)) (returned : Return)
    → IsAnswer (DataIn lines count) (text ∷ texts) returned → ⊥
no_data lines count text n texts (BlocksIn ends.Ok blocks) a = n ends.Ok a.0
no_data lines count text n [] (BlocksIn ends.Cut blocks) a = n ends.Cut a.0
no_data lines count text n texts returned a = a

pub no_register : (lines count : ℕ) (text : List ℕ) → ((end : DataEnd) → text ≡ data_end_text end → ⊥) → (texts : List (List ℕ))
    (returned : Return) → IsAnswer (DataInRegister lines count) (text ∷ texts) returned → ⊥
no_register lines count text n (digits ∷ []) (RegisterIn ends.Ok bytes) a = n ends.Ok a.0
no_register lines count text n [] (RegisterIn ends.Cut bytes) a = n ends.Cut a.0
no_register lines count text n texts returned a = a

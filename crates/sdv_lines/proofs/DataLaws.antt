-- Answers to phases from the card: a word, and lines of digits.
use Rattle.std.proofs.Common.{◌≡◌, ℕ, ◌≤◌, List, [], ◌∷◌, ◌++◌, length, Option, Some, None, sym, ap, ◌∙◌, subst, append_assoc, arith}
use Rattle.std.specs.Prelude.{IfSome}
use Rattle.std.specs.Io.KnownBytes.{Consumes}
use Rattle.sdv_card.specs.declared.answer.DataEnd.TheVariants as ends
use Rattle.sdv_card.specs.Card.{Block}
use Rattle.sdv_card.specs.Port.{DataIn, DataInRegister}
use Rattle.sdv_card.specs.ScriptEvent.{BlocksIn, RegisterIn}
use Rattle.sdv_trace.specs.Trace.{line_feed}
use Rattle.sdv_lines.specs.declared.words.TheConstants as words
use Rattle.sdv_lines.specs.declared.fault.ProtocolFault.{ProtocolFault}
use Rattle.sdv_lines.specs.declared.fault.ProtocolFault.TheVariants as faults
use Rattle.sdv_lines.specs.Texts.{IsLine, lines_of, trimmed}
use Rattle.sdv_lines.specs.Reading.{HasNoDigits, ReadsNoDigits, DigitsRead, HasNoBlocks, ReadsNoBlocks, BlocksRead}
use Rattle.sdv_lines.specs.Streams.{Heard, HasNoAnswer, Unheard}
use Rattle.sdv_lines.proofs.LineLaws.{consumes_more}
use Rattle.sdv_lines.proofs.HeardLaws.{split_one, nonempty, first_line}
use Rattle.sdv_lines.proofs.DigitLaws.{behind_line}

not_both : (text : List ℕ) → text ≡ words.OK.now → text ≡ words.CUT.now → ⊥
not_both text a b = let clash : 2 ≡ 3 = ap length (sym a ∙ b) in absurd (omega (arith, clash))

-- THE REGISTER

pub heard_register : (lines count : ℕ) (old mid new : Option (List ℕ)) (text bytes : List ℕ) → IsLine text → trimmed text ≡ words.OK.now
    → Consumes old mid (text ++ line_feed) → DigitsRead mid new bytes × (length bytes ≡ count)
    → Heard (DataInRegister lines count) (RegisterIn ends.Ok bytes) old new
heard_register lines count old mid new text bytes t ok c (d, n) =
    let small : count ≤ 512 = omega (arith, d.short, n) in
    record {
      texts = text ∷ d.text ∷ [];
      answers = record { lines = (t, (d.line, tt)); says = (ok, n, small, d.are) };
      read = subst (λ (l : List ℕ). Consumes old new l) (append_assoc text line_feed (d.text ++ line_feed))
          (consumes_more old mid new (text ++ line_feed) (d.text ++ line_feed) c d.read);
    }

register_none : (lines count : ℕ) (text ys xs : List ℕ) → IsLine text → trimmed text ≡ words.OK.now → xs ≡ (text ++ line_feed) ++ ys → HasNoDigits count ys
    → HasNoAnswer (DataInRegister lines count) xs
register_none lines count text ys xs t ok c n [] rest returned a e = nonempty (DataInRegister lines count) returned a.says
register_none lines count text ys xs t ok c n (first ∷ digits ∷ []) rest (RegisterIn ends.Ok bytes) a e =
    let same = split_one first text (lines_of (digits ∷ []) ++ rest) ys a.lines.0.0 t.0
    (sym (first_line first (digits ∷ []) rest xs e) ∙ behind_line text ys xs c) in
    n digits bytes rest a.says.2 a.lines.1.0 a.says.3 a.says.1 (sym same.1 ∙ append_assoc digits line_feed rest)
register_none lines count text ys xs t ok c n (first ∷ []) rest (RegisterIn ends.Cut bytes) a e =
    let same = split_one first text rest ys a.lines.0.0 t.0 (sym (first_line first [] rest xs e) ∙ behind_line text ys xs c) in
    not_both (trimmed text) ok (ap trimmed (sym same.0) ∙ a.says.0)
register_none lines count text ys xs t ok c n texts rest returned a e = absurd a.says

register_if : (lines count : ℕ) (old mid : Option (List ℕ)) (text : List ℕ) → IsLine text → trimmed text ≡ words.OK.now → Consumes old mid (text ++ line_feed)
    → IfSome mid (HasNoDigits count) → IfSome old (HasNoAnswer (DataInRegister lines count))
register_if lines count None mid text t ok c n = tt
register_if lines count (Some xs) None text t ok c n = absurd c
register_if lines count (Some xs) (Some ys) text t ok c n = register_none lines count text ys xs t ok c n

pub unheard_register : (lines count : ℕ) (old mid new : Option (List ℕ)) (text : List ℕ) (fault : ProtocolFault) → IsLine text → trimmed text ≡ words.OK.now
    → Consumes old mid (text ++ line_feed) → ReadsNoDigits fault count mid new → Unheard fault (DataInRegister lines count) old new
unheard_register lines count old mid new text faults.Closed t ok c n = (register_if lines count old mid text t ok c n.0, n.1)
unheard_register lines count old mid new text faults.Line t ok c n = register_if lines count old mid text t ok c n
unheard_register lines count old mid new text faults.Read t ok c n = tt
unheard_register lines count old mid new text faults.Write t ok c n = absurd n

-- BLOCKS

pub heard_blocks : (lines count : ℕ) (old mid new : Option (List ℕ)) (text : List ℕ) (blocks : List Block) → IsLine text → trimmed text ≡ words.OK.now
    → Consumes old mid (text ++ line_feed) → BlocksRead mid new blocks × (length blocks ≡ count)
    → Heard (DataIn lines count) (BlocksIn ends.Ok blocks) old new
heard_blocks lines count old mid new text blocks t ok c (b, n) =
    record {
      texts = text ∷ b.texts;
      answers = record { lines = (t, b.lines); says = (ok, n, b.are) };
      read = subst (λ (l : List ℕ). Consumes old new l) (append_assoc text line_feed (lines_of b.texts))
          (consumes_more old mid new (text ++ line_feed) (lines_of b.texts) c b.read);
    }

blocks_none : (lines count : ℕ) (text ys xs : List ℕ) → IsLine text → trimmed text ≡ words.OK.now → xs ≡ (text ++ line_feed) ++ ys → HasNoBlocks count ys
    → HasNoAnswer (DataIn lines count) xs
blocks_none lines count text ys xs t ok c n [] rest returned a e = nonempty (DataIn lines count) returned a.says
blocks_none lines count text ys xs t ok c n (first ∷ texts) rest (BlocksIn ends.Ok blocks) a e =
    let same = split_one first text (lines_of texts ++ rest) ys a.lines.0.0 t.0 (sym (first_line first texts rest xs e) ∙ behind_line text ys xs c) in
    n texts blocks rest a.lines.1 a.says.2 a.says.1 (sym same.1)
blocks_none lines count text ys xs t ok c n (first ∷ []) rest (BlocksIn ends.Cut blocks) a e =
    let same = split_one first text rest ys a.lines.0.0 t.0 (sym (first_line first [] rest xs e) ∙ behind_line text ys xs c) in
    not_both (trimmed text) ok (ap trimmed (sym same.0) ∙ a.says.0)
blocks_none lines count text ys xs t ok c n texts rest returned a e = absurd a.says

blocks_if : (lines count : ℕ) (old mid : Option (List ℕ)) (text : List ℕ) → IsLine text → trimmed text ≡ words.OK.now → Consumes old mid (text ++ line_feed)
    → IfSome mid (HasNoBlocks count) → IfSome old (HasNoAnswer (DataIn lines count))
blocks_if lines count None mid text t ok c n = tt
blocks_if lines count (Some xs) None text t ok c n = absurd c
blocks_if lines count (Some xs) (Some ys) text t ok c n = blocks_none lines count text ys xs t ok c n

pub unheard_blocks : (lines count : ℕ) (old mid new : Option (List ℕ)) (text : List ℕ) (fault : ProtocolFault) → IsLine text → trimmed text ≡ words.OK.now
    → Consumes old mid (text ++ line_feed) → ReadsNoBlocks fault count mid new → Unheard fault (DataIn lines count) old new
unheard_blocks lines count old mid new text faults.Closed t ok c n = (blocks_if lines count old mid text t ok c n.0, n.1)
unheard_blocks lines count old mid new text faults.Line t ok c n = blocks_if lines count old mid text t ok c n
unheard_blocks lines count old mid new text faults.Read t ok c n = tt
unheard_blocks lines count old mid new text faults.Write t ok c n = absurd n

-- Lines of digits, and what is none.
use Rattle.std.proofs.Common.{◌≡◌, ℕ, ◌+◌, ◌<◌, List, [], ◌∷◌, ◌++◌, length, take, set, Option, Some, None, refl, sym, ap, ◌∙◌, subst, append_assoc, arith, length-take-le}
use Rattle.std.specs.Prelude.{IfSome}
use Rattle.std.proofs.lemmas.List.{take_more_set}
use Rattle.std.specs.List.{AllByRecursion}
use Rattle.std.specs.Io.KnownBytes.{Consumes}
use Rattle.sdv_card.specs.Card.{Block}
use Rattle.sdv_trace.specs.Trace.{line_feed}
use Rattle.sdv_lines.specs.declared.fault.ProtocolFault.{ProtocolFault}
use Rattle.sdv_lines.specs.declared.fault.ProtocolFault.TheVariants as faults
use Rattle.sdv_lines.specs.Texts.{IsText, IsLine, AreDigits, AreBlocks, lines_of, trimmed, trims}
use Rattle.sdv_lines.specs.Reading.{ReadsNoLine, HasNoDigits, ReadsNoDigits, DigitsRead, HasNoBlocks, ReadsNoBlocks, BlocksRead}
use Rattle.sdv_lines.proofs.LineLaws.{consumes_none, consumes_more}
use Rattle.sdv_lines.proofs.HeardLaws.{split_one, not_text, no_longer}

-- ONE LINE

-- a text at the front of bytes, with its line feed
pub behind_line : (text ys xs : List ℕ) → xs ≡ (text ++ line_feed) ++ ys → xs ≡ text ++ 10 ∷ ys
behind_line text ys xs e = e ∙ append_assoc text line_feed ys

-- there was no line
pub no_digits : (count : ℕ) (old new : Option (List ℕ)) (fault : ProtocolFault) → ReadsNoLine fault old new → ReadsNoDigits fault count old new
no_digits count None new faults.Closed r = (tt, r.1)
no_digits count (Some xs) new faults.Closed r =
    (λ text bytes rest small t a len e. not_text text rest (subst (λ (l : List ℕ). IsText l) e r.0), r.1)
no_digits count None new faults.Line r = tt
no_digits count (Some xs) new faults.Line (front, back, is, t, long) =
    λ text bytes rest small u a len e.
    let less = no_longer text front rest back t (sym e ∙ is) in
    absurd (omega (arith, less, u.1, long))
no_digits count old new faults.Read r = tt
no_digits count old new faults.Write r = absurd r

-- the line was another
pub wrong_digits : (count : ℕ) (old new : Option (List ℕ)) (text : List ℕ) → IsLine text → Consumes old new (text ++ line_feed)
    → ((bytes : List ℕ) → AreDigits (trimmed text) bytes → length bytes ≡ count → ⊥) → IfSome old (HasNoDigits count)
wrong_digits count None new text t c n = tt
wrong_digits count (Some xs) None text t c n = absurd c
wrong_digits count (Some xs) (Some ys) text t c n =
    λ other bytes rest small u a len e.
    let same = split_one other text rest ys u.0 t.0 (sym e ∙ behind_line text ys xs c) in
    n bytes (subst (λ (l : List ℕ). AreDigits (trimmed l) bytes) same.0 a) len

-- LINES ONE AFTER ANOTHER

lines_more : (texts : List (List ℕ)) (text : List ℕ) → lines_of (texts ++ text ∷ []) ≡ lines_of texts ++ (text ++ line_feed)
lines_more [] text = refl
lines_more (first ∷ texts) text =
    ap (λ l. first ++ (10 ∷ l)) (lines_more texts text) ∙ sym (append_assoc first (10 ∷ lines_of texts) (text ++ line_feed))

texts_more : (texts : List (List ℕ)) (text : List ℕ) → AllByRecursion IsLine texts → IsLine text → AllByRecursion IsLine (texts ++ text ∷ [])
texts_more [] text a t = (t, tt)
texts_more (first ∷ texts) text a t = (a.0, texts_more texts text a.1 t)

are_more : (texts : List (List ℕ)) (blocks : List Block) (text : List ℕ) (block : Block) → AreBlocks (trims texts) blocks
    → AreDigits (trimmed text) block → length block ≡ 512 → AreBlocks (trims (texts ++ text ∷ [])) (blocks ++ block ∷ [])
are_more [] [] text block a d n = (d, n, tt)
are_more [] (other ∷ blocks) text block a d n = absurd a
are_more (first ∷ texts) [] text block a d n = absurd a
are_more (first ∷ texts) (other ∷ blocks) text block a d n = (a.0, a.1, are_more texts blocks text block a.2 d n)

-- no block was read yet
pub none_read : (known : Option (List ℕ)) → BlocksRead known known []
none_read known = record { texts = []; lines = tt; are = tt; read = consumes_none known }

-- one more was
pub one_read : (old mid new : Option (List ℕ)) (blocks : List Block) (i : ℕ) (block : Block) → i < length blocks → BlocksRead old mid (take i blocks)
    → DigitsRead mid new block × (length block ≡ 512) → BlocksRead old new (take (i + 1) (set blocks i block))
one_read old mid new blocks i block lt r (d, n) =
    subst (λ (l : List Block). BlocksRead old new l) (sym (take_more_set blocks i block lt))
    (record {
      texts = r.texts ++ d.text ∷ [];
      lines = texts_more r.texts d.text r.lines d.line;
      are = are_more r.texts (take i blocks) d.text block r.are d.are n;
      read = subst (λ (l : List ℕ). Consumes old new l) (sym (lines_more r.texts d.text))
          (consumes_more old mid new (lines_of r.texts) (d.text ++ line_feed) r.read d.read);
    })

-- THE NEXT LINE WAS NO BLOCK

next_of : (texts others : List (List ℕ)) (done blocks : List Block) (ys rest : List ℕ) → AllByRecursion IsLine texts → AreBlocks (trims texts) done
    → AllByRecursion IsLine others → AreBlocks (trims others) blocks → length done < length blocks → lines_of texts ++ ys ≡ lines_of others ++ rest
    → HasNoDigits 512 ys → ⊥
next_of [] [] [] [] ys rest p a q b lt e n = absurd (omega (arith, lt))
next_of [] [] [] (block ∷ blocks) ys rest p a q b lt e n = b
next_of [] (other ∷ others) [] [] ys rest p a q b lt e n = b
next_of [] (other ∷ others) [] (block ∷ blocks) ys rest p a q b lt e n =
    n other block (lines_of others ++ rest) (omega arith) q.0 b.0 b.1 (e ∙ append_assoc other (10 ∷ lines_of others) rest)
next_of [] others (block ∷ done) blocks ys rest p a q b lt e n = a
next_of (text ∷ texts) others [] blocks ys rest p a q b lt e n = a
next_of (text ∷ texts) [] (block ∷ done) [] ys rest p a q b lt e n = absurd (omega (arith, lt))
next_of (text ∷ texts) [] (block ∷ done) (first ∷ blocks) ys rest p a q b lt e n = b
next_of (text ∷ texts) (other ∷ others) (block ∷ done) [] ys rest p a q b lt e n = b
next_of (text ∷ texts) (other ∷ others) (block ∷ done) (first ∷ blocks) ys rest p a q b lt e n =
    let same = split_one text other (lines_of texts ++ ys) (lines_of others ++ rest) p.0.0 q.0.0
    (sym (append_assoc text (10 ∷ lines_of texts) ys) ∙ e ∙ append_assoc other (10 ∷ lines_of others) rest) in
    let less : length done < length blocks = omega (arith, lt) in
    next_of texts others done blocks ys rest p.1 a.2 q.1 b.2 less same.1 n

next_none : (count : ℕ) (old mid : Option (List ℕ)) (done : List Block) → length done < count → BlocksRead old mid done
    → IfSome mid (HasNoDigits 512) → IfSome old (HasNoBlocks count)
next_none count None mid done lt r n = tt
next_none count (Some xs) None done lt r n = absurd r.read
next_none count (Some xs) (Some ys) done lt r n =
    λ others blocks rest q b len e.
    let less : length done < length blocks = omega (arith, lt, len) in
    next_of r.texts others done blocks ys rest r.lines r.are q b less (sym r.read ∙ e) n

pub no_more : (count : ℕ) (old mid new : Option (List ℕ)) (blocks : List Block) (i : ℕ) (fault : ProtocolFault) → i < length blocks
    → length blocks ≡ count → BlocksRead old mid (take i blocks) → ReadsNoDigits fault 512 mid new → ReadsNoBlocks fault count old new
no_more count old mid new blocks i faults.Closed lt len r n =
    let n_done : length (take i blocks) ≡ i = length-take-le i blocks (omega (arith, lt)) in
    (next_none count old mid (take i blocks) (omega (arith, n_done, lt, len)) r n.0, n.1)
no_more count old mid new blocks i faults.Line lt len r n =
    let n_done : length (take i blocks) ≡ i = length-take-le i blocks (omega (arith, lt)) in
    next_none count old mid (take i blocks) (omega (arith, n_done, lt, len)) r n
no_more count old mid new blocks i faults.Read lt len r n = tt
no_more count old mid new blocks i faults.Write lt len r n = absurd n

-- Texts that a writer took in whole, or a front of them.
use Rattle.std.proofs.Common.{◌≡◌, ℕ, suc, ◌+◌, ◌<◌, List, [], ◌∷◌, ◌++◌, length, take, drop, get_or, drop-cons, Option, Some, None, Result, Ok, Err, sym, ap, ◌∙◌, subst, append_assoc}
use Rattle.std.specs.Prelude.{IfErr}
use Rattle.std.specs.Io.KnownBytes.{Appends, Keeps}
use Rattle.std.proofs.lemmas.List.{append-nil, take-append-drop, take_more}
use Rattle.hex.specs.Hex.{encode_lower}
use Rattle.sdv_card.specs.Card.{Block}
use Rattle.sdv_trace.specs.Trace.{line_feed}
use Rattle.sdv_text.proofs.WrittenLaws.{appends_more}
use Rattle.sdv_lines.specs.declared.fault.ProtocolFault.{ProtocolFault}
use Rattle.sdv_lines.specs.declared.fault.ProtocolFault.TheVariants as faults
use Rattle.sdv_lines.specs.Texts.{lines_of}
use Rattle.sdv_lines.specs.Requests.{block_texts}
use Rattle.sdv_lines.specs.Streams.{AppendsFront, Sends}

-- a front of a text is one of a longer text
pub front_before : (old new : Option (List ℕ)) (a b : List ℕ) → AppendsFront old new a → AppendsFront old new (a ++ b)
front_before old new a b p = (p.0, p.1 ++ b, ap (λ l. l ++ b) p.2 ∙ append_assoc p.0 p.1 b, p.3)

-- a text, and then a front of one more
pub front_after : (old mid new : Option (List ℕ)) (a b : List ℕ) → Appends old mid a → AppendsFront mid new b → AppendsFront old new (a ++ b)
front_after old mid new a b p q = (a ++ q.0, q.1, ap (λ l. a ++ l) q.2 ∙ sym (append_assoc a q.0 q.1), appends_more old mid new a q.0 p q.3)

-- a text, and then one more
pub sends_more : (old mid new : Option (List ℕ)) (a b : List ℕ) (result : Result (Unit {0}) ProtocolFault) → Appends old mid a → Sends mid new result b
    → Sends old new result (a ++ b)
sends_more old mid new a b (Ok x) p q = appends_more old mid new a b p q
sends_more old mid new a b (Err fault) p q = (q.0, front_after old mid new a b p q.1)

kept : (old mid new : Option (List ℕ)) (a : List ℕ) → Appends old mid a → Keeps mid new → Appends old new a
kept None mid new a p k = tt
kept (Some xs) None new a p k = absurd p
kept (Some xs) (Some ys) None a p k = absurd k
kept (Some xs) (Some ys) (Some zs) a p k = k ∙ p

-- what was written is handed on, or not
pub flushed : (old mid new : Option (List ℕ)) (a : List ℕ) (result : Result (Unit {0}) ProtocolFault) → Appends old mid a → Keeps mid new
    → IfErr result (λ fault. fault ≡ faults.Write) → Sends old new result a
flushed old mid new a (Ok x) p k e = kept old mid new a p k
flushed old mid new a (Err fault) p k e = (e, (a, [], sym (append-nil a), kept old mid new a p k))

-- BLOCKS one after another

lines_split : (front : List Block) (b : Block) (bs : List Block) →
    lines_of (block_texts (front ++ b ∷ bs)) ≡ lines_of (block_texts front) ++ ((encode_lower b ++ line_feed) ++ lines_of (block_texts bs))
lines_split [] b bs = sym (append_assoc (encode_lower b) line_feed (lines_of (block_texts bs)))
lines_split (a ∷ front) b bs =
    let rest = (encode_lower b ++ line_feed) ++ lines_of (block_texts bs) in
    ap (λ l. encode_lower a ++ (10 ∷ l)) (lines_split front b bs) ∙ sym (append_assoc (encode_lower a) (10 ∷ lines_of (block_texts front)) rest)

pub blocks_more : (old mid new : Option (List ℕ)) (xs : List Block) (i : ℕ) (d : Block) → i < length xs
    → Appends old mid (lines_of (block_texts (take i xs))) → Appends mid new (encode_lower (get_or xs i d) ++ line_feed)
    → Appends old new (lines_of (block_texts (take (i + 1) xs)))
blocks_more old mid new xs i d lt p q =
    let b = get_or xs i d in
    let one : lines_of (block_texts (take (i + 1) xs)) ≡ lines_of (block_texts (take i xs)) ++ (encode_lower b ++ line_feed) =
    ap (λ l. lines_of (block_texts l)) (take_more xs i d lt) ∙ lines_split (take i xs) b []
    ∙ ap (λ l. lines_of (block_texts (take i xs)) ++ l) (append-nil (encode_lower b ++ line_feed)) in
    subst (λ (l : List ℕ). Appends old new l) (sym one) (appends_more old mid new _ _ p q)

pub blocks_failed : (old mid new : Option (List ℕ)) (xs : List Block) (i : ℕ) (d : Block) → i < length xs
    → Appends old mid (lines_of (block_texts (take i xs))) → AppendsFront mid new (encode_lower (get_or xs i d) ++ line_feed)
    → AppendsFront old new (lines_of (block_texts xs))
blocks_failed old mid new xs i d lt p q =
    let b = get_or xs i d in
    let rest = lines_of (block_texts (drop (suc i) xs)) in
    let all : lines_of (block_texts xs) ≡ lines_of (block_texts (take i xs)) ++ ((encode_lower b ++ line_feed) ++ rest) =
    ap (λ l. lines_of (block_texts l)) (sym (take-append-drop i xs) ∙ ap (λ l. take i xs ++ l) (drop-cons xs i d lt))
    ∙ lines_split (take i xs) b (drop (suc i) xs) in
    subst (λ (l : List ℕ). AppendsFront old new l) (sym all)
    (front_after old mid new (lines_of (block_texts (take i xs))) ((encode_lower b ++ line_feed) ++ rest) p
    (front_before mid new (encode_lower b ++ line_feed) rest q))

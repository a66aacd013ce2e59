-- Requests that were served, one and then the next.
use Rattle.std.proofs.Common.{◌≡◌, ◌⊎◌, ℕ, ◌+◌, ◌<◌, List, [], ◌∷◌, ◌++◌, length, Option, Some, None, Result, Ok, Err, refl, sym, ap, subst, append_assoc, arith}
use Rattle.std.specs.Prelude.{IfSome}
use Rattle.std.specs.Io.KnownBytes.{Consumes}
use Rattle.sdv_card.specs.Card.{Block}
use Rattle.sdv_card.specs.Port.{Call, DataOut}
use Rattle.sdv_card.specs.ScriptEvent.{Return}
use Rattle.sdv_trace.specs.Trace.{line_feed}
use Rattle.sdv_lines.specs.declared.fault.ProtocolFault.{ProtocolFault}
use Rattle.sdv_lines.specs.declared.fault.ProtocolFault.TheVariants as faults
use Rattle.sdv_lines.specs.declared.hearing.Request.{Request}
use Rattle.sdv_lines.specs.declared.hearing.Request.TheVariants as requests
use Rattle.sdv_lines.specs.Texts.{IsLine, AreBlocks, lines_of, trimmed, trims}
use Rattle.sdv_lines.specs.Reading.{ReadsNoLine, HasNoBlocks, ReadsNoBlocks, BlocksRead}
use Rattle.sdv_lines.specs.Hearing.{read_request}
use Rattle.sdv_lines.specs.Serving.{answer_of, IsRequest, Turn, Made, Served, Does, NoRequest, Unended, Overlong, Unknown, TooMany, NoBlocks, NotHeard, Stops, lines_in, Serves, ServedAll, lines_read}
use Rattle.sdv_lines.specs.Streams.{Sends}
use Rattle.sdv_lines.proofs.LineLaws.{consumes_more}
use Rattle.sdv_lines.proofs.DigitLaws.{behind_line}

-- WHAT IS NO REQUEST

pub not_heard : (room : ℕ) (a a' : Option (List ℕ)) (fault : ProtocolFault) → ReadsNoLine fault a a' → NotHeard fault room a a'
not_heard room None a' faults.Closed r = (tt, r.1)
not_heard room (Some xs) a' faults.Closed r = (Unended r.0, r.1)
not_heard room None a' faults.Line r = tt
not_heard room (Some xs) a' faults.Line r = Overlong r
not_heard room a a' faults.Read r = tt
not_heard room a a' faults.Write r = absurd r

pub unknown : (room : ℕ) (a a' : Option (List ℕ)) (text : List ℕ) → IsLine text → Consumes a a' (text ++ line_feed) → read_request (trimmed text) ≡ None
    → IfSome a (NoRequest room)
unknown room None a' text t c n = tt
unknown room (Some xs) None text t c n = absurd c
unknown room (Some xs) (Some ys) text t c n = Unknown text ys t (behind_line text ys xs c) n

pub too_many : (room count lines : ℕ) (a a' : Option (List ℕ)) (text : List ℕ) → IsLine text → Consumes a a' (text ++ line_feed)
    → (read_request (trimmed text) ≡ Some (requests.DataIn count lines)) ⊎ (read_request (trimmed text) ≡ Some (requests.DataOut count lines))
    → room < count → IfSome a (NoRequest room)
too_many room count lines None a' text t c said more = tt
too_many room count lines (Some xs) None text t c said more = absurd c
too_many room count lines (Some xs) (Some ys) text t c said more = TooMany text ys count lines t (behind_line text ys xs c) said more

no_blocks : (room count lines : ℕ) (a mid : Option (List ℕ)) (text : List ℕ) → IsLine text → Consumes a mid (text ++ line_feed)
    → read_request (trimmed text) ≡ Some (requests.DataOut count lines) → IfSome mid (HasNoBlocks count) → IfSome a (NoRequest room)
no_blocks room count lines None mid text t c said n = tt
no_blocks room count lines (Some xs) None text t c said n = absurd c
no_blocks room count lines (Some xs) (Some ys) text t c said n = NoBlocks text ys count lines t (behind_line text ys xs c) said n

not_blocks : (room count lines : ℕ) (a mid a' : Option (List ℕ)) (text : List ℕ) (fault : ProtocolFault) → IsLine text
    → Consumes a mid (text ++ line_feed) → read_request (trimmed text) ≡ Some (requests.DataOut count lines) → ReadsNoBlocks fault count mid a'
    → NotHeard fault room a a'
not_blocks room count lines a mid a' text faults.Closed t c said n = (no_blocks room count lines a mid text t c said n.0, n.1)
not_blocks room count lines a mid a' text faults.Line t c said n = no_blocks room count lines a mid text t c said n
not_blocks room count lines a mid a' text faults.Read t c said n = tt
not_blocks room count lines a mid a' text faults.Write t c said n = absurd n

-- ONE REQUEST

same_length : (texts : List (List ℕ)) (blocks : List Block) → AreBlocks (trims texts) blocks → length texts ≡ length blocks
same_length [] [] a = refl
same_length [] (block ∷ blocks) a = absurd a
same_length (text ∷ texts) [] a = absurd a
same_length (text ∷ texts) (block ∷ blocks) a = let rest = same_length texts blocks a.2 in omega (arith, rest)

module _ {S : Type 0} (steps : S → Call → Return → S → Type 0) where
  pub stops : (room : ℕ) (p : S) (a a' r : Option (List ℕ)) (fault : ProtocolFault) → NotHeard fault room a a' → Stops steps fault room p p a a' r r
  stops room p a a' r faults.Closed n = (refl, refl, n)
  stops room p a a' r faults.Line n = (refl, refl, n)
  stops room p a a' r faults.Read n = (refl, refl, n)
  stops room p a a' r faults.Write n = absurd n

  turn_done : (room lines : ℕ) (turn : Turn) (p p' : S) (a a' r r' : Option (List ℕ)) (result : Result (Unit {0}) ProtocolFault) → length turn.texts ≡ lines
      → Made steps turn p p' a a' → Sends r r' result (answer_of turn.returned)
      → Serves steps room lines p p' a a' r r' result
  turn_done room lines turn p p' a a' r r' (Ok x) n made sent = (turn, record { made = made; answered = sent }, n)
  turn_done room lines turn p p' a a' r r' (Err fault) n made (is, front) =
      subst (λ f. Stops steps f room p p' a a' r r') (sym is) (record { turn = turn; made = made; front = front })

  pub one_line : (room : ℕ) (call : Call) (text : List ℕ) (p p' : S) (a a' r r' : Option (List ℕ)) (result : Result (Unit {0}) ProtocolFault) → IsLine text
      → Consumes a a' (text ++ line_feed) → IsRequest call (trimmed text ∷ []) → Does steps call p p' r r' result → Serves steps room 1 p p' a a' r r' result
  one_line room call text p p' a a' r r' result t c asks (returned, step, sent) =
      turn_done room 1 (record { texts = text ∷ []; call = call; returned = returned }) p p' a a' r r' result refl
      (record { lines = (t, tt); asks = asks; read = c; step = step }) sent

  pub out_lines : (room lines : ℕ) (blocks : List Block) (text : List ℕ) (p p' : S) (a mid a' r r' : Option (List ℕ))
      (result : Result (Unit {0}) ProtocolFault) → IsLine text → Consumes a mid (text ++ line_feed)
      → read_request (trimmed text) ≡ Some (requests.DataOut (length blocks) lines) → BlocksRead mid a' blocks → Does steps (DataOut lines blocks) p p' r r' result
      → Serves steps room (1 + length blocks) p p' a a' r r' result
  out_lines room lines blocks text p p' a mid a' r r' result t c said b (returned, step, sent) =
      let same = same_length b.texts blocks b.are in
      turn_done room (1 + length blocks) (record { texts = text ∷ b.texts; call = DataOut lines blocks; returned = returned }) p p' a a' r r' result
      (omega (arith, same))
      (record {
        lines = (t, b.lines);
        asks = (said, b.are);
        read = subst (λ (l : List ℕ). Consumes a a' l) (append_assoc text line_feed (lines_of b.texts))
            (consumes_more a mid a' (text ++ line_feed) (lines_of b.texts) c b.read);
        step = step;
      }) sent

  pub blocks_stop : (room count lines : ℕ) (text : List ℕ) (p : S) (a mid a' r : Option (List ℕ)) (fault : ProtocolFault) → IsLine text
      → Consumes a mid (text ++ line_feed) → read_request (trimmed text) ≡ Some (requests.DataOut count lines) → ReadsNoBlocks fault count mid a'
      → Stops steps fault room p p a a' r r
  blocks_stop room count lines text p a mid a' r fault t c said n =
      stops room p a a' r fault (not_blocks room count lines a mid a' text fault t c said n)

  -- a request is the one that was read
  pub as_asked : (room : ℕ) (request actual : Request) (p p' : S) (a a' r r' : Option (List ℕ)) (result : Result (Unit {0}) ProtocolFault) → request ≡ actual
      → Serves steps room (lines_in actual) p p' a a' r r' result → Serves steps room (lines_in request) p p' a a' r r' result
  as_asked room request actual p p' a a' r r' result e s = subst (λ n. Serves steps room n p p' a a' r r' result) (ap lines_in (sym e)) s

  -- REQUESTS one after another
  pub served_more : (turns : List Turn) (turn : Turn) (p q p' : S) (a b a' r s r' : Option (List ℕ)) → ServedAll steps turns p q a b r s
      → Served steps turn q p' b a' s r' → ServedAll steps (turns ++ turn ∷ []) p p' a a' r r'
  served_more [] turn p q p' a b a' r s r' (x, y, z) one =
      let first : Served steps turn p p' a a' r r' =
      subst (λ v. Served steps turn v p' a a' r r') x (subst (λ v. Served steps turn q p' v a' r r') y (subst (λ v. Served steps turn q p' b a' v r') z one)) in
      (p', a', r', first, (refl, refl, refl))
  served_more (first ∷ turns) turn p q p' a b a' r s r' (u, c, d, done, rest) one =
      (u, c, d, done, served_more turns turn u q p' c b a' d s r' rest one)

pub lines_more : (turns : List Turn) (turn : Turn) → lines_read (turns ++ turn ∷ []) ≡ lines_read turns + length turn.texts
lines_more [] turn = omega arith
lines_more (first ∷ turns) turn = let rest = lines_more turns turn in omega (arith, rest)

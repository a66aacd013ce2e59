-- A text that grows line by line towards the text of all its requests.
use Rattle.std.proofs.Common.{◌≡◌, ℕ, zero, suc, ◌+◌, ◌<◌, ◌≤◌, refl, sym, ap, ◌∙◌, subst, arith, List, [], ◌∷◌, ◌++◌, length, length-append, append_assoc, append-nil, drop}
use Rattle.std.specs.Prelude.{codes, Err}
use Rattle.std.proofs.lemmas.List.{drop_all}
use Rattle.sdv_registers.specs.declared.kind.Kind.{Kind}
use Rattle.sdv_script.specs.Rules.{max_bytes}
use Rattle.sdv_block.specs.declared.fault.BlockFault.{BlockFault}
use Rattle.sdv_block.specs.declared.fault.BlockFault.TheVariants.{Limit, Memory}
use Rattle.sdv_block.specs.declared.request.Request.{Request}
use Rattle.sdv_block.specs.declared.request.Request.TheVariants.{Read, Write}
use Rattle.sdv_block.specs.Batch.{Grows}
use Rattle.sdv_block.specs.BatchText.{line, multiple_read_text, multiple_write_text, settle_text, request_text, requests_text, test_text, bring_up_text}
use Rattle.sdv_block.specs.Disk.{greatest_end}
use Rattle.sdv_block.proofs.BatchLaws.{text_of}

-- a front is no longer than the whole
pub longer : (most : ℕ) (text rest whole : List ℕ) → text ++ rest ≡ whole → most < length text → most < length whole
longer most text rest whole is long =
    let e : length (text ++ rest) ≡ length whole = ap length is in
    let f = length-append text rest in
    omega (arith, e, f, long)

-- a text by its pieces
pub grown : (old s t u a d e b others : List ℕ) → s ≡ old ++ a → t ≡ s ++ d → d ≡ e → u ≡ t ++ b → u ++ others ≡ old ++ (a ++ (e ++ (b ++ others)))
grown old s t u a d e b others p q r w = rw (w, q, r, p) (simp append_assoc)

-- one piece behind an old text
pub one_piece : (old u a others : List ℕ) → u ≡ old ++ a → u ++ others ≡ old ++ (a ++ others)
one_piece old u a others e = ap (λ (t : List ℕ). t ++ others) e ∙ append_assoc old a others

-- REQUESTS of other counts than one

pub not_single_read : (block count : ℕ) (others : List ℕ) → (count ≡ 1 → ⊥) → request_text (Read block count) others ≡ multiple_read_text block count others
not_single_read block zero others e = refl
not_single_read block (suc zero) others e = absurd (e refl)
not_single_read block (suc (suc n)) others e = refl

pub not_single_write : (block count : ℕ) (others : List ℕ) → (count ≡ 1 → ⊥) → request_text (Write block count) others ≡ multiple_write_text block count others
not_single_write block zero others e = refl
not_single_write block (suc zero) others e = absurd (e refl)
not_single_write block (suc (suc n)) others e = refl

-- the lines after the count
abbrev pub read_tail : List ℕ
read_tail =
    32 ∷ line (codes "{ clean { } else { fault read } }") (
    line (codes "recv { ok { } else { fault read } }") (
    line (codes "send 12 { answer { } else { fault read } }") (
    line (codes "loop 1000 { send 13 { clean & state=tran { break } answer { } else { fault read } } } else { fault read }") [])))

abbrev pub write_tail : List ℕ
write_tail =
    32 ∷ line (codes "{ clean { } else { fault write } }") (
    line (codes "give { ok { } else { fault write } }") (
    line (codes "send 12 { clean { } else { fault write } }") (settle_text [])))

-- a request behind an old text, by its words, its block and its count
pub counted : (old new before head between tail behind others whole : List ℕ) → new ≡ old ++ (before ++ (head ++ (between ++ (tail ++ behind)))) →
    whole ≡ before ++ (head ++ (between ++ (tail ++ (behind ++ others)))) → new ++ others ≡ old ++ whole
counted old new before head between tail behind others whole e f = rw (e, f) (simp append_assoc)

-- REQUESTS, one after another

pub record Listed (rs : List Request) (i : ℕ) (old text : List ℕ) : Type 0 where
  pub grown : (others : List ℕ) → text ++ requests_text (drop i rs) others ≡ old ++ requests_text rs others

pub none_listed : (rs : List Request) (old : List ℕ) → Listed rs 0 old old
none_listed rs old = record { grown = λ others. refl }

-- what is still to come, before and after a request
split_here : (rs : List Request) (i : ℕ) (r : Request) (others : List ℕ) → drop i rs ≡ r ∷ drop (i + 1) rs →
    requests_text (drop i rs) others ≡ request_text r (requests_text (drop (i + 1) rs) others)
split_here rs i r others here = ap (λ (rest : List Request). requests_text rest others) here

pub one_listed : (rs : List Request) (i : ℕ) (r : Request) (old text new : List ℕ) → drop i rs ≡ r ∷ drop (i + 1) rs → Listed rs i old text →
    ((others : List ℕ) → new ++ others ≡ text ++ request_text r others) → Listed rs (i + 1) old new
one_listed rs i r old text new here w grew = record {
  grown = λ others.
      grew (requests_text (drop (i + 1) rs) others)
      ∙ ap (λ (t : List ℕ). text ++ t) (sym (split_here rs i r others here))
      ∙ w.grown others;
}

pub all_listed : (rs : List Request) (i : ℕ) (old text : List ℕ) → length rs ≤ i → Listed rs i old text → (others : List ℕ) →
    text ++ others ≡ old ++ requests_text rs others
all_listed rs i old text le w others =
    ap (λ (rest : List Request). text ++ requests_text rest others) (sym (drop_all i rs le)) ∙ w.grown others

-- a text that is too long is so with all that comes after it
pub long_listed : (rs : List Request) (i most : ℕ) (old text : List ℕ) → Listed rs i old text → most < length text → (others : List ℕ) →
    most < length (old ++ requests_text rs others)
long_listed rs i most old text w long others = longer most text (requests_text (drop i rs) others) (old ++ requests_text rs others) (w.grown others) long

-- THE WHOLE TEXT

module _ (k : Kind) (rs : List Request) (t0 t1 : List ℕ) (begins : (others : List ℕ) → t0 ++ others ≡ bring_up_text k others)
    (tests : (others : List ℕ) → t1 ++ others ≡ t0 ++ test_text (greatest_end rs) others) where
  to_requests : (others : List ℕ) → t1 ++ others ≡ bring_up_text k (test_text (greatest_end rs) others)
  to_requests others = tests others ∙ begins (test_text (greatest_end rs) others)

  pub whole_text : (t2 t3 : List ℕ) → ((others : List ℕ) → t2 ++ others ≡ t1 ++ requests_text rs others) →
      ((others : List ℕ) → t3 ++ others ≡ t2 ++ line (codes "done") others) → t3 ≡ text_of k rs
  whole_text t2 t3 requests ends =
      sym (append-nil t3) ∙ (ends [] ∙ (requests (line (codes "done") []) ∙ to_requests (requests_text rs (line (codes "done") []))))

  pub long_text : (most : ℕ) → ((others : List ℕ) → most < length (t1 ++ requests_text rs others)) → most < length (text_of k rs)
  long_text most long =
      subst (λ (t : List ℕ). most < length t) (to_requests (requests_text rs (line (codes "done") []))) (long (line (codes "done") []))

-- the same, where the first text is a copy and the number is computed
module _ (k : Kind) (rs : List Request) (b t0 t1 : List ℕ) (n : ℕ) (begins : (others : List ℕ) → b ++ others ≡ bring_up_text k others) (copy : t0 ≡ b)
    (tests : (others : List ℕ) → t1 ++ others ≡ t0 ++ test_text n others) (end : n ≡ greatest_end rs) where
  begins_by : (others : List ℕ) → t0 ++ others ≡ bring_up_text k others
  begins_by others = ap (λ (t : List ℕ). t ++ others) copy ∙ begins others

  tests_by : (others : List ℕ) → t1 ++ others ≡ t0 ++ test_text (greatest_end rs) others
  tests_by others = tests others ∙ ap (λ (m : ℕ). t0 ++ test_text m others) end

  pub whole_by : (t2 t3 : List ℕ) → ((others : List ℕ) → t2 ++ others ≡ t1 ++ requests_text rs others) →
      ((others : List ℕ) → t3 ++ others ≡ t2 ++ line (codes "done") others) → t3 ≡ text_of k rs
  whole_by t2 t3 requests ends = whole_text k rs t0 t1 begins_by tests_by t2 t3 requests ends

  pub refused_by : (new : List ℕ) (fault : BlockFault) → Grows t1 new (Err fault) (requests_text rs) → (fault ≡ Memory → ⊥) →
      (fault ≡ Limit) × (max_bytes < length (text_of k rs))
  refused_by new Limit long f = (refl, long_text k rs t0 t1 begins_by tests_by max_bytes long)
  refused_by new Memory long f = absurd (f refl)
  refused_by new fault long f = absurd long

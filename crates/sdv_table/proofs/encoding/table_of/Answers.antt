use Rattle.std.proofs.Common.{◌≡◌, ◌+◌, ◌++◌, length, ap, arith, ◌∙◌, subst}
use Rattle.sdv_table.specs.Table.{rows, size}
use Rattle.sdv_table.specs.Fits.{CountsFit, TargetFits, counts_of}
use Rattle.sdv_table.proofs.Growing.{table_is}
use Rattle.sdv_table.proofs.encoding.table_of.Goals as goal

pub returns-clause-table : goal.returns-clause-table
returns-clause-table c =
    let g = c.args.graph.now in
    let counts : c.in_ok-counts.counts ≡ counts_of g = c.in_ok-counts.ensures.counts in
    let points : c.in_ok-counts.counts.points ≡ length g.points = ap (λ c. c.points) counts in
    let rs : c.in_ok-points.points.rows.items ≡ rows g.kind g.points = c.in_ok-points.ensures.rows in
    let row_count : length c.in_ok-points.points.rows.items ≡ length (rows g.kind g.points) = ap length rs in
    let total : (8 + c.in_ok-counts.counts.points) + c.len-row_words.result ≡ size g = omega arith in
    let put_heads : c.extend_from_slice.new.self.items ≡ c.in_ok-words.words.items ++ c.in_ok-points.points.heads.items =
    c.in_ok-extend_from_slice.ensures.items ∙ ap (λ o. c.in_ok-words.words.items ++ o) c.deref.ensures.value in
    let put_rows : c.extend_from_slice-2.new.self.items ≡ c.extend_from_slice.new.self.items ++ c.in_ok-points.points.rows.items =
    c.in_ok-extend_from_slice-2.ensures.items ∙ ap (λ o. c.extend_from_slice.new.self.items ++ o) c.deref-2.ensures.value in
    record {
      fits = record {
        counts = subst CountsFit counts c.in_ok-counts.ensures.fit;
        first = subst (λ n. TargetFits n g.first) points c.in_ok-words.ensures.fits;
        points = c.in_ok-points.ensures.fits;
        moves = c.in_ok-words.ensures.few;
        words = omega arith;
      };
      same = table_is g c.args.most (c.in_ok-words.ensures.words total) put_heads put_rows c.in_ok-points.ensures.heads rs;
    }

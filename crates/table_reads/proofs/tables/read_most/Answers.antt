use Rattle.std.proofs.Common.{MatchOption, subst, sym}
use Rattle.sqlite.specs.Held.{state}
use Rattle.sqlite.specs.State.{HasCleanDisk}
use Rattle.table_reads.specs.Shown.{FitsLot, FitsProduct, FitsWord, IsAny}
use Rattle.table_reads.proofs.After.{kept_then}
use Rattle.table_reads.specs.Reading.{HasGroupings, HasMost, HoldsNoneOf}
use Rattle.table_reads.proofs.RowsHeld.{most_read}
use Rattle.table_reads.proofs.Meanings.{wholes}
use Rattle.table_reads.proofs.TableReads.{read_of}
use Rattle.table_reads.proofs.Together.{carried, early}
use Rattle.table_reads.proofs.Looking.{◌▷◌, looks_past, looks_well}
use Rattle.table_reads.proofs.tables.read_most.Goals as goal

pub returns-clause-value : goal.returns-clause-value
returns-clause-value g c clean =
    let v = c.args.version in
    let s0 = state g.S.Store c.args.conn.now in
    let s1 = state g.S.Store c.marks.new.conn in
    let s2 = state g.S.Store c.both.new.conn in
    let s3 = state g.S.Store c.both-2.new.conn in
    let s4 = state g.S.Store c.groupings.new.conn in
    let s5 = state g.S.Store c.both-3.new.conn in
    let s6 = state g.S.Store c.both-4.new.conn in
    let clean5 : HasCleanDisk s5 = early s5 s6 c.both-4.ensures.looks.survives clean in
    let clean4 : HasCleanDisk s4 = early s4 s5 c.both-3.ensures.looks.survives clean5 in
    let clean3 : HasCleanDisk s3 = early s3 s4 c.groupings.ensures.looks.survives clean4 in
    let clean2 : HasCleanDisk s2 = early s2 s3 c.both-2.ensures.looks.survives clean3 in
    let clean1 : HasCleanDisk s1 = early s1 s2 c.both.ensures.looks.survives clean2 in
    let kept1 = c.marks.ensures.looks.kept clean1 in
    let kept2 = kept_then s0 s1 s2 kept1 (c.both.ensures.looks.kept clean2) in
    let kept3 = kept_then s0 s2 s3 kept2 (c.both-2.ensures.looks.kept clean3) in
    let kept4 = kept_then s0 s3 s4 kept3 (c.groupings.ensures.looks.kept clean4) in
    let kept5 = kept_then s0 s4 s5 kept4 (c.both-3.ensures.looks.kept clean5) in
    let first = c.in_ok-words.ensures.value clean2 in
    let second = c.in_ok-blanks.ensures.value clean3 in
    let third = c.in_ok-products.ensures.value clean5 in
    let fourth = c.in_ok-batches.ensures.value clean in (
      kept1.was_open first.0,
      subst (λ all. MatchOption all (HoldsNoneOf v s0.now) (HasMost v s0.now)) (sym c.gathered.ensures)
          (most_read v s0.now (record { products = _; lots = _; batches = _; records = _; groupings = _; sessions = _; words = _; blanks = _; remakes = _; marks = _ }) (record {
            products = read_of _ FitsProduct _ _ v (λ t. t.products) (λ t fit. fit.products) (λ t db held. held.products) _ wholes.products s0 s4 kept4 _ (third.0, third.1);
            lots = read_of _ FitsLot _ _ v (λ t. t.lots) (λ t fit. fit.lots) (λ t db held. held.lots) _ wholes.lots s0 s4 kept4 _ (third.0, third.2);
            batches = read_of _ IsAny _ _ v (λ t. t.batches) (λ t fit k d low. tt) (λ t db held. held.batches) _ wholes.batches s0 s5 kept5 _ (fourth.0, fourth.1);
            records = read_of _ IsAny _ _ v (λ t. t.records) (λ t fit k d low. tt) (λ t db held. held.records) _ wholes.records s0 s2 kept2 _ (second.0, second.2);
            groupings = carried (HoldsNoneOf v) (HasGroupings v) s0 s3 kept3 _ (c.in_ok-groupings.ensures.value clean4);
            sessions = read_of _ IsAny _ _ v (λ t. t.sessions) (λ t fit k d low. tt) (λ t db held. held.sessions) _ wholes.sessions s0 s1 kept1 _ (first.0, first.2);
            words = read_of _ FitsWord _ _ v (λ t. t.words) (λ t fit. fit.words) (λ t db held. held.words) _ wholes.words s0 s1 kept1 _ (first.0, first.1);
            blanks = read_of _ IsAny _ _ v (λ t. t.blanks) (λ t fit k d low. tt) (λ t db held. held.blanks) _ wholes.blanks s0 s2 kept2 _ (second.0, second.1);
            remakes = read_of _ IsAny _ _ v (λ t. t.remakes) (λ t fit k d low. tt) (λ t db held. held.remakes) _ wholes.remakes s0 s5 kept5 _ (fourth.0, fourth.2);
            marks = c.in_ok-marks.ensures.value clean1;
          })),
    )

pub returns-in_err-words-clause-looks : goal.returns-in_err-words-clause-looks
returns-in_err-words-clause-looks g c =
    let r = c.from_residual-in_err-words in
    c.marks.ensures.looks ▷ looks_past c.both.ensures.looks r.result c.in_err-words.field-0.0 r.ensures.1 c.in_err-words.ensures.looks.cause

pub returns-in_err-blanks-clause-looks : goal.returns-in_err-blanks-clause-looks
returns-in_err-blanks-clause-looks g c =
    let r = c.from_residual-in_err-blanks in
    c.marks.ensures.looks ▷ c.both.ensures.looks ▷ looks_past c.both-2.ensures.looks r.result c.in_err-blanks.field-0.0 r.ensures.1 c.in_err-blanks.ensures.looks.cause

pub returns-in_err-groupings-clause-looks : goal.returns-in_err-groupings-clause-looks
returns-in_err-groupings-clause-looks g c =
    let r = c.from_residual-in_err-groupings in
    let last = looks_past c.groupings.ensures.looks r.result c.in_err-groupings.field-0.0 r.ensures.1 c.in_err-groupings.ensures.looks.cause in
    c.marks.ensures.looks ▷ c.both.ensures.looks ▷ c.both-2.ensures.looks ▷ last

pub returns-in_err-products-clause-looks : goal.returns-in_err-products-clause-looks
returns-in_err-products-clause-looks g c =
    let r = c.from_residual-in_err-products in
    let last = looks_past c.both-3.ensures.looks r.result c.in_err-products.field-0.0 r.ensures.1 c.in_err-products.ensures.looks.cause in
    c.marks.ensures.looks ▷ c.both.ensures.looks ▷ c.both-2.ensures.looks ▷ c.groupings.ensures.looks ▷ last

pub returns-in_err-batches-clause-looks : goal.returns-in_err-batches-clause-looks
returns-in_err-batches-clause-looks g c =
    let r = c.from_residual-in_err-batches in
    let last = looks_past c.both-4.ensures.looks r.result c.in_err-batches.field-0.0 r.ensures.1 c.in_err-batches.ensures.looks.cause in
    c.marks.ensures.looks ▷ c.both.ensures.looks ▷ c.both-2.ensures.looks ▷ c.groupings.ensures.looks ▷ c.both-3.ensures.looks ▷ last

pub returns-clause-looks : goal.returns-clause-looks
returns-clause-looks g c =
    looks_well (c.marks.ensures.looks ▷ c.both.ensures.looks ▷ c.both-2.ensures.looks ▷ c.groupings.ensures.looks ▷ c.both-3.ensures.looks ▷ c.both-4.ensures.looks) _

use Rattle.std.proofs.Common.{◌≡◌, [], ◌∷◌, ◌++◌, Ok, reverse, refl, sym, ap, ◌∙◌, subst, inl}
use Rattle.std.proofs.KnownBytes.{Appends-nil}
use Rattle.std.proofs.lemmas.Result.{err_from_is_err_and}
use Rattle.field_bounds.specs.Header.{schema_of}
use Rattle.script_input.specs.Reader.{given_line}
use Rattle.script_input.proofs.ReaderLemmas.{no_further_none}
use Rattle.script_input.proofs.NextLemmas.{stops_no_memory}
use Rattle.escrow_run.specs.Text.{line_text, HasText}
use Rattle.escrow_run.proofs.TextLemmas.{HasText-start}
use Rattle.escrow_run.proofs.script.Script.start.Goals as goal

pub returns-in_err-lines-clause-err : goal.returns-in_err-lines-clause-err
returns-in_err-lines-clause-err g c =
    let from = g.R.Source.bytes c.args.reader.now in
    let p = err_from_is_err_and c.from_residual.result c.from_residual.ensures.1 in
    rw (p.1, p.2) (stops_no_memory from from (g.R.Source.last c.args.reader.now) [] (no_further_none from from (inl refl)))

pub returns-in_err-machine-clause-err : goal.returns-in_err-machine-clause-err
returns-in_err-machine-clause-err g c =
    let p = err_from_is_err_and c.from_residual-in_err-machine.result c.from_residual-in_err-machine.ensures.1 in
    rw (p.1, p.2) (stops_no_memory _ _ _ _ c.in_ok-schema.ensures.no_further)

pub returns-in_err-add_line-clause-err : goal.returns-in_err-add_line-clause-err
returns-in_err-add_line-clause-err g c =
    let p = err_from_is_err_and c.from_residual-in_err-add_line.result c.from_residual-in_err-add_line.ensures.1 in
    rw (p.1, p.2) (stops_no_memory _ _ _ _ c.in_ok-schema.ensures.no_further)

pub returns-clause-ok : goal.returns-clause-ok
returns-clause-ok g c = λ before.
    let has = c.in_ok-schema.ensures.ok in
    let line = given_line c.header.new.self in
    let world = c.in_ok-machine.machine.world in
    let told : schema_of line ≡ Ok world.schema = has.told ∙ ap Ok (sym c.in_ok-machine.ensures.schema) in
    let out : c.add_line.new.out.items ≡ line_text line =
    c.in_ok-add_line.ensures.ok ∙ ap (λ l. l ++ line_text c.line.result.now) c.new-out.ensures.items ∙ ap line_text c.line.ensures.line in record {
      given = line ∷ [];
      reads = has.reads;
      stands = record {
        written = [];
        appended = Appends-nil before;
        text = subst (HasText world.schema (reverse world.steps) (line ∷ [])) (sym out)
            (subst (λ steps. HasText world.schema (reverse steps) (line ∷ []) (line_text line)) (sym c.in_ok-machine.ensures.fresh)
            (HasText-start world.schema line told));
      };
      long = inl has.passed;
    }

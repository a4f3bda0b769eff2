use Rattle.blockrun_text.specs.Forms.{fields_of, verified_text, best_text, link_text}
use Rattle.blockrun_text.proofs.Reading.{told}
use Rattle.blockrun_text.proofs.parse.read_fields.Goals as goal

pub returns-then-starts_with : goal.returns-then-starts_with
unfolding fields_of
returns-then-starts_with c =
    let v = told verified_text c.args.line.now _ _ c.starts_with.ensures.value c.if-starts_with.true in
    simp v c.read_send.ensures

pub returns-then-starts_with-2 : goal.returns-then-starts_with-2
unfolding fields_of
returns-then-starts_with-2 c =
    let v = told verified_text c.args.line.now _ _ c.starts_with.ensures.value c.if-starts_with.false in
    let b = told best_text c.args.line.now _ _ c.starts_with-2.ensures.value c.if-starts_with-2.true in
    simp (v, b) c.read_send-then-starts_with-2.ensures

pub returns-then-starts_with-3 : goal.returns-then-starts_with-3
unfolding fields_of
returns-then-starts_with-3 c =
    let v = told verified_text c.args.line.now _ _ c.starts_with.ensures.value c.if-starts_with.false in
    let b = told best_text c.args.line.now _ _ c.starts_with-2.ensures.value c.if-starts_with-2.false in
    let l = told link_text c.args.line.now _ _ c.starts_with-3.ensures.value c.if-starts_with-3.true in
    simp (v, b, l) c.read_link.ensures

pub returns : goal.returns
unfolding fields_of
returns c =
    let v = told verified_text c.args.line.now _ _ c.starts_with.ensures.value c.if-starts_with.false in
    let b = told best_text c.args.line.now _ _ c.starts_with-2.ensures.value c.if-starts_with-2.false in
    let l = told link_text c.args.line.now _ _ c.starts_with-3.ensures.value c.if-starts_with-3.false in
    simp (v, b, l) c.read_bus.ensures

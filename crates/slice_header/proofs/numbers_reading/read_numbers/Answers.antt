use Rattle.std.proofs.lemmas.Result.{err_from_is_err_and}
use Rattle.slice_header.specs.Spelling.{numbers}
use Rattle.element_tables.proofs.Tables.{gives_made, gives_stop, gives_then}
use Rattle.slice_header.proofs.numbers_reading.read_numbers.Goals as goal

pub returns-in_err-first_mb : goal.returns-in_err-first_mb
unfolding numbers
returns-in_err-first_mb c =
    let p = err_from_is_err_and c.from_residual.result c.from_residual.ensures.1 in
    rw (p.1, p.2) (gives_stop _ c.in_err-first_mb.ensures)

pub returns-in_err-slice_type : goal.returns-in_err-slice_type
unfolding numbers
returns-in_err-slice_type c =
    let p = err_from_is_err_and c.from_residual-in_err-slice_type.result c.from_residual-in_err-slice_type.ensures.1 in
    rw (p.1, p.2) (gives_then _ c.in_ok-first_mb.ensures (gives_stop _ c.in_err-slice_type.ensures))

pub returns-in_err-pps : goal.returns-in_err-pps
unfolding numbers
returns-in_err-pps c =
    let p = err_from_is_err_and c.from_residual-in_err-pps.result c.from_residual-in_err-pps.ensures.1 in
    rw (p.1, p.2) (gives_then _ c.in_ok-first_mb.ensures (gives_then _ c.in_ok-slice_type.ensures (gives_stop _ c.in_err-pps.ensures)))

pub returns-in_err-frame_num : goal.returns-in_err-frame_num
unfolding numbers
returns-in_err-frame_num c =
    let p = err_from_is_err_and c.from_residual-in_err-frame_num.result c.from_residual-in_err-frame_num.ensures.1 in
    rw (p.1, p.2) (gives_then _ c.in_ok-first_mb.ensures (gives_then _ c.in_ok-slice_type.ensures (gives_then _ c.in_ok-pps.ensures (gives_stop _ (rw c.from.ensures at c.in_err-frame_num.ensures)))))

pub returns-in_err-idr_pic_id : goal.returns-in_err-idr_pic_id
unfolding numbers
returns-in_err-idr_pic_id c =
    let p = err_from_is_err_and c.from_residual-in_err-idr_pic_id.result c.from_residual-in_err-idr_pic_id.ensures.1 in
    rw (p.1, p.2) (gives_then _ c.in_ok-first_mb.ensures (gives_then _ c.in_ok-slice_type.ensures (gives_then _ c.in_ok-pps.ensures (gives_then _ (rw c.from.ensures at c.in_ok-frame_num.ensures) (gives_stop _ c.in_err-idr_pic_id.ensures)))))

pub returns : goal.returns
unfolding numbers
returns c =
    (gives_then _ c.in_ok-first_mb.ensures (gives_then _ c.in_ok-slice_type.ensures (gives_then _ c.in_ok-pps.ensures (gives_then _ (rw c.from.ensures at c.in_ok-frame_num.ensures) (gives_then _ c.in_ok-idr_pic_id.ensures (gives_made _ _))))))

use Rattle.std.proofs.Common.{arith, subst}
use Rattle.handover_world.specs.Faults.{IsFault}
use Rattle.hand_faults.proofs.Places.{counted, move_there, output_there, room, row_there}
use Rattle.hand_faults.proofs.place.hand_fault.Goals as goal

pub row_line-requires-clause-last : goal.row_line-requires-clause-last
row_line-requires-clause-last g c =
    let all = counted c.args.text.now c.args.image.now c.requires.image in
    let near = row_there c.requires.fault.0 c.args.image.now c.in-Count.row
    (subst (IsFault c.requires.fault.0 c.args.image.now) c.in-Count.is c.requires.fault.1) in
    omega (arith, all, near)

pub row_line-requires-clause-there : goal.row_line-requires-clause-there
row_line-requires-clause-there g c =
    let all = counted c.args.text.now c.args.image.now c.requires.image in
    let ended = c.len-ended.ensures in
    λ few. omega (arith, all, ended, few)

pub overflow_add-ended : goal.overflow_add-ended
overflow_add-ended g c =
    let wide = room c.args.text.now c.args.image.now c.requires.image in
    let ended = c.len-ended.ensures in
    omega (arith, wide, ended)

pub overflow_add-ended-in-Move : goal.overflow_add-ended-in-Move
overflow_add-ended-in-Move g c =
    let wide = room c.args.text.now c.args.image.now c.requires.image in
    let ended = c.len-ended.ensures in
    let released = c.len-released.ensures in
    omega (arith, wide, ended, released)

pub overflow_add-ended-in-Move-2 : goal.overflow_add-ended-in-Move-2
overflow_add-ended-in-Move-2 g c =
    let wide = room c.args.text.now c.args.image.now c.requires.image in
    let near = move_there c.requires.fault.0 c.args.image.now c.in-Move.fault
    (subst (IsFault c.requires.fault.0 c.args.image.now) c.in-Move.is c.requires.fault.1) in
    let ended = c.len-ended.ensures in
    let released = c.len-released.ensures in
    omega (arith, wide, near, ended, released)

pub line_at-requires : goal.line_at-requires
line_at-requires g c =
    let all = counted c.args.text.now c.args.image.now c.requires.image in
    let near = move_there c.requires.fault.0 c.args.image.now c.in-Move.fault
    (subst (IsFault c.requires.fault.0 c.args.image.now) c.in-Move.is c.requires.fault.1) in
    let ended = c.len-ended.ensures in
    let released = c.len-released.ensures in
    omega (arith, all, near, ended, released)

pub overflow_add-ended-in-Released : goal.overflow_add-ended-in-Released
overflow_add-ended-in-Released g c =
    let wide = room c.args.text.now c.args.image.now c.requires.image in
    let ended = c.len-ended.ensures in
    omega (arith, wide, ended)

pub overflow_add-ended-in-Released-2 : goal.overflow_add-ended-in-Released-2
overflow_add-ended-in-Released-2 g c =
    let wide = room c.args.text.now c.args.image.now c.requires.image in
    let near = output_there c.requires.fault.0 c.args.image.now c.in-Released.place
    (subst (IsFault c.requires.fault.0 c.args.image.now) c.in-Released.is c.requires.fault.1) in
    let ended = c.len-ended.ensures in
    omega (arith, wide, near, ended)

pub line_at-requires-in-Released : goal.line_at-requires-in-Released
line_at-requires-in-Released g c =
    let all = counted c.args.text.now c.args.image.now c.requires.image in
    let near = output_there c.requires.fault.0 c.args.image.now c.in-Released.place
    (subst (IsFault c.requires.fault.0 c.args.image.now) c.in-Released.is c.requires.fault.1) in
    let ended = c.len-ended.ensures in
    omega (arith, all, near, ended)

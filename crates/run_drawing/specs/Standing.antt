-- Where the code that draws a picture has come to.
use Rattle.run_drawing.specs.declared.events.State.{State}
use Rattle.run_drawing.specs.Picture.{Drawn}

abbrev pub drawn_by : State → Drawn
drawn_by state = record {
  column = state.column;
  earlier = state.earlier.items;
  gone = state.gone.items;
  released = state.released;
}

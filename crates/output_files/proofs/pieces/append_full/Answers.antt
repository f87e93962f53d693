use Rattle.output_files.proofs.PieceWise.{none_left}
use Rattle.output_files.proofs.pieces.append_full.Goals as goal

pub returns-clause-shows : goal.returns-clause-shows
returns-clause-shows g c p h bytes before gathered =
    none_left _ _ _ _ _ _ c.append_last.ensures.none (c.append_last.ensures.shows p h bytes before gathered)

use Rattle.fn_climb.proofs.Tops.{loaded_word}
use Rattle.fn_climb.proofs.stepping.load.Goals as goal

pub returns : goal.returns
returns c = loaded_word c.requires.holds c.requires.free c.requires.shut.2 c.requires.top c.requires.tries c.load_try.ensures

-- Lines of words, as the laws of a command line have them.
use Prim.Native.String.{String}
use Rattle.std.specs.Prelude.{List, [], ◌∷◌, ◌++◌, codes}
use Rattle.clap.specs.Words.{Text}
use Rattle.web_cli.specs.Asked.{Asked, asked_for, plain_words}

-- the name of a shop's file
abbrev pub hall : Text
hall = codes "hall.db"

-- a moment
abbrev pub morning : Text
morning = codes "2026-05-01T10:00:00Z"

-- what a line asks for that has this word alone behind the program
abbrev pub asked_alone : Text → String → Asked
asked_alone program word = asked_for (program ∷ codes word ∷ [])

-- what a line of `feed` asks for, with these words behind the command
abbrev pub asked_of_feed : Text → List Text → Asked
asked_of_feed program words = asked_for (program ∷ codes "feed" ∷ words)

-- what a line of `feed` asks for that begins at that moment, with this word behind `--step`
abbrev pub asked_with_step : String → Asked
asked_with_step word = asked_for (plain_words (codes "boxoffice" ∷ codes "feed" ∷ codes "--from" ∷ morning ∷ codes "--step" ∷ codes word ∷ []))

-- what a line of this command asks for that names that file, with these words behind it
abbrev pub asked_on_hall : Text → String → List Text → Asked
asked_on_hall program command words = asked_for (program ∷ codes command ∷ hall ∷ words)

-- what a line of `serve` asks for that names that file and this address, with these words behind them
abbrev pub asked_to_serve : Text → Text → List Text → Asked
asked_to_serve program listen words = asked_on_hall program "serve" ((codes "--listen=" ++ listen) ∷ words)

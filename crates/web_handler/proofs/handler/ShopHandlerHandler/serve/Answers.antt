use Rattle.std.proofs.Common.{◌∙◌}
use Rattle.web_arrivals.specs.Coming.{arrival}
use Rattle.web_arrivals.specs.HandlerView.{house_of, trait_meaning, words_of}
use Rattle.web_handler.proofs.HandlerLemmas.{known, looked-up, unavailable}
use Rattle.web_handler.proofs.handler.ShopHandlerHandler.serve.Goals as goal

pub returns-in-Ok : goal.returns-in-Ok
returns-in-Ok g c =
    let looked = c.in-Ok.ensures in
    let answered = c.answer.ensures in
    record {
      organizer = answered.organizer ∙ looked.organizer;
      event = answered.event ∙ looked.event;
      office = λ unavailable. answered.office unavailable ∙ looked.office;
      was_sure = λ sure. looked.sure (answered.sure sure);
      once = λ sure house knows.
          let before = answered.sure sure in
          known (trait_meaning g.T.Tables) c.args.self.now c.number.new.self c.answer.new.self c.args.tick c.args.frame.now c.answer.result c.in-Ok.number house
          looked.organizer looked.event (looked.found before house knows) (looked.same before) (looked.house before) looked.crash (answered.once sure);
    }

pub returns-in-Err : goal.returns-in-Err
returns-in-Err g c =
    let looked = c.in-Err.ensures in
    let tables = trait_meaning g.T.Tables in
    record {
      organizer = looked.organizer;
      event = looked.event;
      office = λ unavailable. looked.office;
      was_sure = looked.sure;
      once = λ sure told knows.
          let house = house_of c.args.self.now told in
          let coming = arrival house c.args.tick c.args.frame.now in
          looked-up tables (words_of house) c.args.self.now c.number.new.self c.number.new.self coming _ (looked.same sure) (looked.house sure) looked.crash (unavailable tables (words_of house) c.number.new.self coming);
    }

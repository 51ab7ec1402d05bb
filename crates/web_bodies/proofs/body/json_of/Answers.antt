use Rattle.serde_json.specs.Errors.{IsMemory}
use Rattle.web_bodies.proofs.Json.{json_read, json_refused}
use Rattle.web_bodies.proofs.body.json_of.Goals as goal

pub returns-in-Ok : goal.returns-in-Ok
returns-in-Ok c = json_read _ _ c.in-Ok.ensures.ok.0 c.in-Ok.ensures.ok.1

pub returns-else-is_memory : goal.returns-else-is_memory
returns-else-is_memory c =
    let other : ¬ (IsMemory c.in-Err.error) = λ m. let t = c.is_memory.ensures.1 m in cc (t, c.if-is_memory.false) in
    json_refused _ (c.in-Err.ensures.err other)

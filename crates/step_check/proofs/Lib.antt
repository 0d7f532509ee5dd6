pub mod StackLaws
pub mod SlotLaws
pub mod PassLaws
pub mod AtLaws

pub mod Laws
pub mod Pads
pub mod Rules
pub mod Strokes
pub mod Typed

pub mod BodyLaws
pub mod FrameTelling
pub mod HeadLaws
pub mod QuadLaws
